-- A short output is refused, and a line's session is one of the eight.
use Rattle.std.proofs.Common.{◌≡◌, ap, ◌∙◌, arith, true}
use Rattle.calculus.specs.Number.{is_session}
use Rattle.forms.specs.Read.{read}
use Rattle.model.specs.State.{load}
use Rattle.model.specs.Turn.{session_of}
use Rattle.simulator.proofs.Range.{asked_session}
use Rattle.simulator.proofs.Replied.{replied}
use Rattle.simulator.proofs.call.call.Goals as goal

pub returns : goal.returns
returns c =
    let u = c.session_of-session.result.0 in
    let numbered : is_session u ≡ true = rw (c.session_of-session.ensures, c.read-asked.ensures) (asked_session (read c.args.line.now)) in
    let its : u ≡ session_of c.read-asked.result = rw c.session_of-session.ensures in
    let part = rw numbered at c.load-part.ensures in
    let left = c.answer_line-written in
    replied c.args.s c.args.line.now c.read-asked.result c.read-asked.ensures u its c.load-part.result (part ∙ ap (load c.args.s) its)
    (omega arith) left.ensures.lines left.new.s left.ensures.shared left.new.t left.ensures.part c.store.new.s
    (rw numbered at c.store.ensures) left.result.1 left.ensures.status
