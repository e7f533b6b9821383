-- What is left of the lines is inside the buffer.
use Rattle.std.proofs.Common.{arith, sym, ◌+◌, ◌≤◌, length}
use Rattle.pieces.proofs.Lent.{calls_inside, answer_line, answer_none}
use Rattle.pieces.proofs.answer.Goals as goal
use Rattle.pieces.proofs.answer.Goals.{After-calls-answered}

-- what was read and written
inside : (c : After-calls-answered)
    → (c.args.from + c.calls-answered.result.read ≤ c.args.to) × (c.calls-answered.result.written ≤ length c.calls-answered.new.out)
inside c = calls_inside _ _ _ _ _ _ _ c.requires.0 c.requires.1 c.calls-answered.ensures

pub overflow_add-next : goal.overflow_add-next
overflow_add-next c = omega (arith, inside (goal.at.overflow_add-next c).After-calls-answered)

pub slice_bounds-has_line-count : goal.slice_bounds-has_line-count
slice_bounds-has_line-count c = (inside (goal.at.slice_bounds-has_line-count c).After-calls-answered).0

pub slice_bounds-has_line-start : goal.slice_bounds-has_line-start
slice_bounds-has_line-start c = omega (arith, inside (goal.at.slice_bounds-has_line-start c).After-calls-answered)

pub returns-then-has_line : goal.returns-then-has_line
returns-then-has_line c =
    answer_line _ _ _ _ _ _ _ c.requires.0 c.requires.1 c.calls-answered.ensures (sym c.if-has_line.ensures)

pub keep-kept-requires : goal.keep-kept-requires
keep-kept-requires c = ((inside (goal.at.keep-kept-requires c).After-calls-answered).0, c.requires.1)

pub returns : goal.returns
returns c =
    answer_none _ _ _ _ _ _ _ c.requires.0 c.requires.1 c.calls-answered.ensures (sym c.if-has_line.ensures) c.keep-kept.ensures
