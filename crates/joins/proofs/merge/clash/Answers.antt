-- The networks clash exactly if they do from place k on.
use Rattle.std.proofs.Common.{rules, refl}
use Rattle.calculus.proofs.Tests.{join}
use Rattle.joins.proofs.Clashes.{searching_none, searching_all, searching_more, searching_stop}
use Rattle.joins.proofs.JoinCases.{text_of}
use Rattle.joins.proofs.LinesRead.{lines_none, line_read}
use Rattle.joins.proofs.merge.clash.Goals as goal

pub loop-k-init : goal.loop-k-init
loop-k-init c = searching_none (text_of c.args.a.now, text_of c.args.b.now)

pub returns-then-differ : goal.returns-then-differ
returns-then-differ c =
    let s = c.loop-k.invariant in
    searching_stop s
    (line_read (text_of c.args.a.now) s.first (search rules) refl c.place_line-x.ensures.line)
    (line_read (text_of c.args.b.now) s.second (search rules) refl c.place_line-y.ensures.line)
    (join c.differ.ensures c.if-differ.true)

pub loop-k-preserved : goal.loop-k-preserved
loop-k-preserved c =
    let s = c.loop-k.invariant in
    searching_more s
    (line_read (text_of c.args.a.now) s.first (search rules) refl c.place_line-x.ensures.line)
    (line_read (text_of c.args.b.now) s.second (search rules) refl c.place_line-y.ensures.line)
    c.place_line-x.ensures.behind
    c.place_line-y.ensures.behind
    (join c.differ.ensures c.if-differ.false)

pub returns : goal.returns
returns c = searching_all c.loop-k.invariant (lines_none (text_of c.args.a.now) c.loop-k-test.false)
