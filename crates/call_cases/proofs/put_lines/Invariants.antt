-- It keeps inside its text: a line that was found stands there.
use Rattle.std.proofs.Common.{length, ◌-◌, ◌≤◌}
use Rattle.call_cases.proofs.put_lines.Given as goal

abbrev pub invariant-loop-stop : goal.invariant-loop-stop
invariant-loop-stop l = l.from ≤ length l.text

abbrev pub decreases-loop-stop : goal.decreases-loop-stop
decreases-loop-stop l = length l.text - l.from
