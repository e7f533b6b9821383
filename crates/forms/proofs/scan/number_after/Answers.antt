use Rattle.std.proofs.Common.{arith}
use Rattle.calculus.proofs.Tests.{join}
use Rattle.forms.proofs.Loops.{scanned_more}
use Rattle.forms.proofs.scan.number_after.Goals as goal

pub loop-i-preserved : goal.loop-i-preserved
loop-i-preserved c =
    rw c.wide.ensures (scanned_more c.loop-i.invariant c.loop-i-test.true (join c.is_digit.ensures c.if-is_digit.true) (omega arith))
