-- The line stands inside the text.
use Rattle.std.proofs.Common.{arith}
use Rattle.forms.proofs.Splits.{line_inside}
use Rattle.calculus.proofs.Tests.{join}
use Rattle.joins.proofs.merge.place_line.Goals as goal

pub slice_bounds-result-end : goal.slice_bounds-result-end
slice_bounds-result-end c = let inside = line_inside _ _ _ (join c.next_line.ensures c.in_ok-line.was) in omega (arith, inside)
