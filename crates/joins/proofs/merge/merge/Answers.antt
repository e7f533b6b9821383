-- The first of each two lines is put behind those of the places before.
use Rattle.std.proofs.Common.{◌∙◌, sym, ap, refl, arith, rules}
use Rattle.calculus.proofs.Tests.{join}
use Rattle.joins.specs.Merge.{line_of}
use Rattle.joins.proofs.JoinCases.{text_of}
use Rattle.joins.proofs.LinesRead.{lines_none, line_read}
use Rattle.joins.proofs.Merges.{next_or, merging_none, merging_size, merging_all, merging_end, merging_more, merging_on}
use Rattle.joins.proofs.merge.merge.Goals as goal
use Rattle.joins.proofs.merge.merge.Goals.{in-Some, in_default}

pub loop-k-init : goal.loop-k-init
loop-k-init c = merging_none (text_of c.args.a.now, text_of c.args.b.now) c.requires

pub slice_bounds-copy_from_slice-end : goal.slice_bounds-copy_from_slice-end
slice_bounds-copy_from_slice-end c =
    let s = c.loop-k.invariant in
    let h = merging_end s
    (line_read (text_of c.args.a.now) s.first (search rules) refl c.place_line-first.ensures.line)
    (line_read (text_of c.args.b.now) s.second (search rules) refl c.place_line-second.ensures.line)
    (ap line_of (sym (join c.or.ensures c.in-Some.is)) ∙ next_or _ _ c.place_line-first.ensures.some)
    in
    omega (arith, h, merging_size s, s.width)

pub loop-k-preserved : goal.loop-k-preserved
loop-k-preserved c =
    let s = c.loop-k.invariant in
    let p = line_read (text_of c.args.a.now) s.first (search rules) refl c.place_line-first.ensures.line in
    let q = line_read (text_of c.args.b.now) s.second (search rules) refl c.place_line-second.ensures.line in
    let or = next_or _ c.place_line-second.result c.place_line-first.ensures.some in
    let u = c.place_line-first.ensures.behind in
    let v = c.place_line-second.ensures.behind in
    elim c.match-or.branch [
      | in-Some w ↦ rw (w.out-is, w.end-is) (merging_more s p q (ap line_of (sym (join c.or.ensures w.in-Some.is)) ∙ or) u v (omega arith) (search rules))
      | in_default w ↦ rw (w.out-is, w.end-is) (merging_on s p q (ap line_of (sym (join c.or.ensures w.in_default.is)) ∙ or) u v refl)
    ]

pub returns : goal.returns
returns c = merging_all c.loop-k.invariant (lines_none (text_of c.args.a.now) c.loop-k-test.false)
