-- The credentials before `i` are in the set.
use Rattle.forms.proofs.Tallies.{Taking}
use Rattle.forms.proofs.node.set_of.Given as goal

abbrev pub invariant-loop-i : goal.invariant-loop-i
invariant-loop-i l = Taking l.ns l.set l.least l.i
