-- A text written into an output that may have no room for it. `answers` and `reports` cite it. Assumes nothing.
use Rattle.std.specs.Prelude.{ℕ, ◌+◌, ◌≤◌, ◌≡◌, Bool, cond, List, leb, length}
use Rattle.std.proofs.lemmas.List.Edits.{sets}
use Rattle.answers.specs.declared.put.Output.{Output}

-- from place at on, `room` of the `size` bytes are left
abbrev pub has_room : ℕ → ℕ → ℕ → Bool
has_room room size at = leb (at + room) size

-- where `room` bytes are left, the text is put from place at of the output l on, and next is the place behind it; elsewhere nothing is
-- put, and next is at. The output is left as m, and its other bytes are as they were. Where it is put, the text has at most `room` bytes
pub record Writes (room : ℕ) (l : List ℕ) (at : ℕ) (text m : List ℕ) (next : ℕ) : Type 0 where
  pub place : next ≡ cond (has_room room (length l) at) (at + length text) at
  pub left : m ≡ cond (has_room room (length l) at) (sets l at text) l
  pub few : next ≤ at + room

-- where `room` bytes are left in s the text is added, elsewhere nothing is, which leaves t, the same lent output
pub record Written (room : ℕ) (s : Output) (text : List ℕ) (t : Output) : Type 0 where
  pub writes : Writes room s.out.now s.at text t.out.now t.at
  pub size : length t.out.now ≡ length s.out.now
  pub same : t.out.ghost_name ≡ s.out.ghost_name
