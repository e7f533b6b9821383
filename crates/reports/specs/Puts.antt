-- A text put into an output that has room for it. Proofs of `simulator` cite it. Assumes nothing.
use Rattle.std.specs.Prelude.{List, ℕ, ◌≤◌, length}
use Rattle.answers.specs.Put.{Put}

-- the output l, with the text put from place at on, is m, and the place behind it is next; it has at most `most` bytes
pub record Puts (most : ℕ) (l : List ℕ) (at : ℕ) (text m : List ℕ) (next : ℕ) : Type 0 where
  pub put : Put l at text m next
  pub few : length text ≤ most
