-- A text put into an output. Contracts of `answers` and `reports` cite it. Assumes nothing.
use Rattle.std.specs.Prelude.{ℕ, ◌+◌, ◌≡◌, List, length}
use Rattle.std.proofs.lemmas.List.Edits.{sets}
use Rattle.answers.specs.declared.put.Output.{Output}

-- the output l, with the text put from place at on, is m: its other bytes are as they were, and the place behind the text is next
pub record Put (l : List ℕ) (at : ℕ) (text m : List ℕ) (next : ℕ) : Type 0 where
  pub place : next ≡ at + length text
  pub bytes : m ≡ sets l at text

-- the text is put into s at its place, which leaves t, the same lent output with the place behind the text
pub record Adds (s : Output) (text : List ℕ) (t : Output) : Type 0 where
  pub put : Put s.out.now s.at text t.out.now t.at
  pub size : length t.out.now ≡ length s.out.now
  pub same : t.out.ghost_name ≡ s.out.ghost_name
