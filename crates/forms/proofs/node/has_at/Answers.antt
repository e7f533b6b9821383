-- By the credentials that it reads.
use Rattle.std.proofs.Common.{rules, ◌≡◌, Some}
use Rattle.calculus.proofs.Tests.{join}
use Rattle.forms.specs.Read.{list}
use Rattle.forms.specs.Held.{gathered}
use Rattle.forms.proofs.Tallies.{has_then}
use Rattle.forms.proofs.node.has_at.Goals as goal

pub returns-then-starts : goal.returns-then-starts
returns-then-starts c =
    let e : Some c.in_ok-has.has ≡ gathered (list 10 200 0 c.args.s.now) = search rules in
    has_then c.args.n c.args.kind c.args.s.now e (join c.starts.ensures c.if-starts.true) c.needs_at.ensures
