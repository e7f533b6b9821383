use Rattle.std.proofs.Common.{arith, Some, ap, ◌∙◌}
use Rattle.calculus.proofs.Tests.{join}
use Rattle.forms.proofs.Parts.{filling_number}
use Rattle.forms.proofs.list.read_list.Goals as goal

pub loop-count-preserved : goal.loop-count-preserved
loop-count-preserved c =
    filling_number c.loop-count.invariant _ _ (omega (arith, c.loop-count-test.true, c.loop-count.invariant.size)) (join c.read_part.ensures (c.in_ok-value.was ∙ ap Some c.in-Number.is))
