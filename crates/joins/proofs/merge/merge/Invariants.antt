-- The lines of the first k places are put.
use Rattle.joins.proofs.Merges.{Merging}
use Rattle.joins.proofs.merge.merge.Given as goal

abbrev pub invariant-loop-k : goal.invariant-loop-k
invariant-loop-k l = Merging l.a.network l.b.network l.a.text.now l.b.text.now l.initial.out l.out l.i l.j l.end l.k
