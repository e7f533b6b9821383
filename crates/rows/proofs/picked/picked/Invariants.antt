-- `found` is what was picked of the first rows.
use Rattle.std.proofs.Common.{◌≡◌, ◌≤◌, Bool}
use Rattle.calculus.specs.declared.session.Row.{Row}
use Rattle.rows.specs.Picked.{TestsAs}
use Rattle.rows.proofs.Picks.{first_picked}
use Rattle.rows.proofs.picked.picked.Given as goal

abbrev pub invariant-loop-row : goal.invariant-loop-row
invariant-loop-row g l =
    (l.found.held ≤ l.row-index)
    × ((p : Row → Bool) → TestsAs g.F.Fn l.fn.test p → l.found ≡ first_picked p l.fn.t l.row-index)
