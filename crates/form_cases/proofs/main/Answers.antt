use Rattle.std.proofs.Common.{arith}
use Rattle.calculus.proofs.Tests.{join}
use Rattle.forms.proofs.Splits.{line_inside}
use Rattle.form_cases.proofs.main.Goals as goal

pub slice_bounds-put_line-end : goal.slice_bounds-put_line-end
slice_bounds-put_line-end c = omega (arith, line_inside _ _ _ (join c.next_line.ensures c.in-Some.is))
