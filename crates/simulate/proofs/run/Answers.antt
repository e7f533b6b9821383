use Rattle.std.proofs.Common.{sym, length-take-le}
use Rattle.pieces.proofs.Inside.{advance_inside}
use Rattle.simulate.proofs.run.Goals as goal

pub slice_bounds-write_all-end : goal.slice_bounds-write_all-end
slice_bounds-write_all-end c = (advance_inside _ _ _ _ c.advance-progress.ensures).1

pub slice_bounds-write_all-end-in-loop : goal.slice_bounds-write_all-end-in-loop
slice_bounds-write_all-end-in-loop c = sym (length-take-le _ _ (advance_inside _ _ _ _ c.advance-progress.ensures).1)

pub loop-preserved : goal.loop-preserved
loop-preserved c = (advance_inside _ _ _ _ c.advance-progress.ensures).0
