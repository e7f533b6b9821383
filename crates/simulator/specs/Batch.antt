-- The calls of a text as the code answers them. Cited by `calls`. Assumes nothing.
use Rattle.std.specs.Prelude.{◌≡◌, List, ℕ}
use Rattle.model.specs.Batch.{Batch}
use Rattle.simulator.specs.declared.calls.Answered.{Answered}

-- r, and the lent output as it is left, are what b says
pub record Answers (left : List ℕ) (r : Answered) (b : Batch) : Type 0 where
  pub answered : r ≡ record { state = b.state; read = b.read; written = b.written }
  pub output : left ≡ b.out
