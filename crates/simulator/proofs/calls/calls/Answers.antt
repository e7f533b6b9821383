-- A line that is found is one more call; where none is found, no further call is to be made.
use Rattle.std.proofs.Common.{rules, ◌≡◌, arith, ◌-◌, ◌≤◌, length, sym, refl, ◌∙◌}
use Rattle.simulator.proofs.Batches.{answering_first, answering_more, answering_last}
use Rattle.simulator.proofs.Batches.{Next, next_found, Reads, reads_numbered}
use Rattle.simulator.proofs.calls.calls.Goals as goal
use Rattle.simulator.proofs.calls.calls.Goals.{In-Some, After-session_of}

-- the line that was found
found : (c : In-Some)
    → Next c.args.text.now c.loop-line.from (length c.loop-line.out - c.loop-line.written) c.in-Some.line.stop c.in-Some.line.next
found c = next_found _ _ _ c.in-Some.line (sym c.next_call.ensures ∙ c.in-Some.is)

-- the session that it names
numbered : (c : After-session_of) → (1 ≤ c.session_of.result.0) × (c.session_of.result.0 ≤ 8)
numbered c =
    let r : Reads c.args.text.now c.loop-line.from c.in-Some.line.stop c.read-asked.result = record { same = c.read-asked.ensures } in
    rw c.session_of.ensures (reads_numbered r)

pub loop-line-init : goal.loop-line-init
loop-line-init c =
    answering_first _ _ _ (record { sessions = search rules; items = search rules; rows = search rules; users = search rules })
    c.unpack-parts.ensures

pub overflow_sub-at : goal.overflow_sub-at
overflow_sub-at c = (numbered (goal.at.overflow_sub-at c).After-session_of).0

pub bounds-parts-at : goal.bounds-parts-at
bounds-parts-at c = omega (arith, numbered (goal.at.bounds-parts-at c).After-session_of)

pub loop-line-preserved : goal.loop-line-preserved
loop-line-preserved c =
    let left = c.answer_line-behind in
    answering_more c.loop-line.invariant (found (goal.at.loop-line-preserved c).In-Some) c.read-asked.result
    (record { same = c.read-asked.ensures }) c.session_of.result.0 (rw c.session_of.ensures) _ _ refl left.new.s left.ensures.shared
    left.new.t left.ensures.part left.ensures.lines

pub returns : goal.returns
returns c =
    let none = sym c.next_call.ensures ∙ c.in_default.is in
    answering_last c.loop-line.invariant none c.pack.result
    (record { sessions = search rules; items = search rules; rows = search rules; users = search rules }) c.pack.ensures
