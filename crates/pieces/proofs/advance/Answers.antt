-- The places are put into the buffer; then the round is one of `finish` or of `answer`.
use Rattle.std.proofs.Common.{sym}
use Rattle.pieces.proofs.Rounds.{advance_end, advance_more}
use Rattle.pieces.proofs.advance.Goals as goal

pub returns-then-is_end : goal.returns-then-is_end
returns-then-is_end c =
    advance_end _ _ _ _ _ _ c.min-to.ensures c.min-from.ensures (sym c.if-is_end.ensures) c.finish.ensures

pub returns : goal.returns
returns c =
    advance_more _ _ _ _ _ _ c.min-to.ensures c.min-from.ensures (sym c.if-is_end.ensures) _ c.min.ensures c.answer.ensures
