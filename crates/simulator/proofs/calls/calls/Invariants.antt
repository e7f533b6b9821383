-- The calls so far lead from s to the state that the pieces hold.
use Rattle.std.proofs.Common.{◌-◌, length}
use Rattle.simulator.proofs.Batches.{Answering}
use Rattle.simulator.proofs.calls.calls.Given as goal

abbrev pub invariant-loop-line : goal.invariant-loop-line
invariant-loop-line l = Answering l.fn.s l.text l.fn.out l.out l.state l.parts l.from l.written

abbrev pub decreases-loop-line : goal.decreases-loop-line
decreases-loop-line l = length l.text - l.from
