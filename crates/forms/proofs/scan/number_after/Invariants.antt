-- The digits up to `i` are read, and ten digits fit.
use Rattle.forms.proofs.Loops.{Scanned}
use Rattle.forms.proofs.scan.number_after.Given as goal

abbrev pub invariant-loop-i : goal.invariant-loop-i
invariant-loop-i l = Scanned l.s l.first l.value l.i
