-- What is unread is inside the buffer.
use Rattle.std.proofs.Common.{length, ◌≤◌}
use Rattle.simulate.proofs.run.Given as goal

abbrev pub invariant-loop : goal.invariant-loop
invariant-loop l = l.progress.to ≤ length l.input
