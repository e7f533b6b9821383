-- A text at the front of an output. Assumes nothing.
use Rattle.std.specs.Prelude.{ℕ, ◌≡◌, List, ◌++◌, length, drop}

-- the text is put at the front of the output `out`, which is left as `left`: "output bytes past them stay"; it has `written` bytes
pub record Front (out text left : List ℕ) (written : ℕ) : Type 0 where
  pub size : written ≡ length text
  pub bytes : left ≡ text ++ drop (length text) out
