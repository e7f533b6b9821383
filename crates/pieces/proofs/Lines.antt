-- Whether a whole line is left, by the first line: for `has_line`; and in what is kept. Assumes nothing.
use mathlib.Core.Path.{◌≡◌}
use mathlib.Core.Bool.{true, false}
use mathlib.Core.List.{List}
use Prim.Native.Nat.{ℕ}
use native.Mathlib.Omega.{arith}
use borrow.Author.Tests.{ltb-false, le-ltb}
use lib.ListN.{length, take}
use Rattle.calculus.proofs.Tests.{Way, is, isnt, way, clash}
use Rattle.forms.specs.Line.{line_length}
use Rattle.model.specs.Texts.{NoNewline}
use Rattle.model.specs.Stream.{has_line, too_long, kept}
use Rattle.model.proofs.Newlines.{line_length_most}
use Rattle.model.proofs.Unfinished.{take_unfinished}

module _ (l : List ℕ) where
  -- where no line is left, no newline is
  pub no_newline : has_line l ≡ false → NoNewline l
  no_newline e = omega (arith, line_length_most l, ltb-false (line_length l) (length l) e)

  -- none is in what is kept, then
  pub none_kept : has_line l ≡ false → has_line (take too_long l) ≡ false
  none_kept e = le-ltb (line_length (take too_long l)) (length (take too_long l)) (omega (arith, take_unfinished too_long l (no_newline e)))

  -- where a line is left in what is kept, all is kept
  pub all_kept : has_line (kept l) ≡ true → kept l ≡ l
  all_kept = go (way (has_line l))
    where
      go : Way (has_line l) → has_line (kept l) ≡ true → kept l ≡ l
      go (is e) q = rw e
      go (isnt e) q = let z : has_line (take too_long l) ≡ true = rw e at q in clash (cc (none_kept e))

  -- where none is left in it, none is left at all
  pub kept_none : has_line (kept l) ≡ false → has_line l ≡ false
  kept_none = go (way (has_line l))
    where
      go : Way (has_line l) → has_line (kept l) ≡ false → has_line l ≡ false
      go (is e) q = rw e at q
      go (isnt e) q = e
