-- The first i parts are put back.
use Rattle.tables.proofs.Packs.{Packed}
use Rattle.tables.proofs.part.pack.Given as goal

abbrev pub invariant-loop-i : goal.invariant-loop-i
invariant-loop-i l = Packed l.initial.s l.parts l.s l.i
