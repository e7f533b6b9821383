-- It keeps inside its input: a line that was found stands there.
use Rattle.std.proofs.Common.{length, ◌-◌, ◌≤◌}
use Rattle.form_cases.proofs.main.Given as goal

abbrev pub invariant-loop-line : goal.invariant-loop-line
invariant-loop-line l = l.from ≤ length l.text

abbrev pub decreases-loop-line : goal.decreases-loop-line
decreases-loop-line l = length l.text - l.from
