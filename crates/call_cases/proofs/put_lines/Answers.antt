use Rattle.std.proofs.Common.{arith}
use Rattle.calculus.proofs.Tests.{join}
use Rattle.forms.proofs.Splits.{line_inside}
use Rattle.call_cases.proofs.put_lines.Goals as goal

pub slice_bounds-put_both-end : goal.slice_bounds-put_both-end
slice_bounds-put_both-end c = omega (arith, line_inside _ _ _ (join c.line_at.ensures c.in-Some.is))
