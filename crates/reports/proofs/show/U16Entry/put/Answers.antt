-- The line of an association has at most 29 bytes.
use Rattle.std.proofs.Common.{arith, append-nil}
use borrow.Author.Tests.{lt-ltb}
use Rattle.model.proofs.ShowLines.{place_width}
use Rattle.answers.proofs.Writes.{written_adds}
use Rattle.reports.proofs.show.U16Entry.put.Goals as goal

pub returns-then-self-gt0-clause-few : goal.returns-then-self-gt0-clause-few
returns-then-self-gt0-clause-few c =
    let w = rw (lt-ltb _ _ c.if-self-gt0.true, append-nil) at (place_width c.args.p c.args.self.now (omega arith) (omega arith)) in
    let x = written_adds (omega (arith, c.requires.room)) (rw c.spi_of.ensures at c.write.ensures) in
    omega (arith, w, x.put.place)
