-- One entry more.
use Rattle.reports.proofs.Tables.{firsts_none, firsts_more}
use Rattle.reports.proofs.table.put_table.Goals as goal

pub loop-place-init : goal.loop-place-init
loop-place-init g c = firsts_none

pub loop-place-preserved : goal.loop-place-preserved
loop-place-preserved g c =
    firsts_more c.index-table-place.result c.index-table-place.is c.loop-place-test.true c.loop-place.invariant c.put.ensures.added c.put.ensures.few
