-- The lines of the first k places are read, and no two of them clash.
use Rattle.joins.proofs.Clashes.{Searching}
use Rattle.joins.proofs.merge.clash.Given as goal

abbrev pub invariant-loop-k : goal.invariant-loop-k
invariant-loop-k l = Searching l.a.network l.b.network l.a.text.now l.b.text.now l.i l.j l.k
