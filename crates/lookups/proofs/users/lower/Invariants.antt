-- The first rows have gone.
use Rattle.std.proofs.Common.{◌≡◌, take}
use Rattle.model.specs.Row.{lowered}
use Rattle.lookups.proofs.users.lower.Given as goal

abbrev pub invariant-loop-row : goal.invariant-loop-row
invariant-loop-row l = l.users ≡ lowered l.initial.users (take l.row-index l.fn.rows)
