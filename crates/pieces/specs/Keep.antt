-- What stays of a line whose newline has not come. Cited by `keep`. Assumes nothing.
use Rattle.std.specs.Prelude.{◌≡◌, List, ◌++◌, ℕ, ◌-◌, min, take, drop}
use Rattle.model.specs.Stream.{too_long}

-- `left` is l with n bytes at its front replaced by those from `from` up to `to`, or by the first 401 of them; the other bytes stay
pub record Keeps (l : List ℕ) (from to : ℕ) (left : List ℕ) (n : ℕ) : Type 0 where
  pub count : n ≡ min (to - from) too_long
  pub bytes : left ≡ take n (drop from l) ++ drop n l
