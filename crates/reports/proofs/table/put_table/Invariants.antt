-- The texts of the first entries are added.
use Rattle.reports.proofs.Tables.{Firsts}
use Rattle.reports.proofs.table.put_table.Given as goal

abbrev pub invariant-loop-place : goal.invariant-loop-place
invariant-loop-place g l = Firsts g.E.Entry.text g.E.Entry.LONGEST l.table l.fn.out l.place l.out
