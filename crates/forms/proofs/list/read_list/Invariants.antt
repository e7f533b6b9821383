-- The places before `count` hold the numbers before `at`.
use Rattle.forms.proofs.Parts.{Filling}
use Rattle.forms.proofs.list.read_list.Given as goal

abbrev pub invariant-loop-count : goal.invariant-loop-count
invariant-loop-count l = Filling l.s l.initial.into l.into l.at l.count
