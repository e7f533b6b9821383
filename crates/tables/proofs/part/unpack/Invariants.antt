-- The first i parts are those of s.
use Rattle.tables.proofs.Packs.{Unpacked}
use Rattle.tables.proofs.part.unpack.Given as goal

abbrev pub invariant-loop-i : goal.invariant-loop-i
invariant-loop-i l = Unpacked l.s l.parts l.i
