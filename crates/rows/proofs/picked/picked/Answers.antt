-- A turn picks the next row if the test says so.
use Rattle.std.proofs.Common.{sym, ◌∙◌, arith, refl}
use Rattle.rows.proofs.picked.picked.Goals.{then-test, else-test}
use Rattle.rows.proofs.Picks.{picked_more, left_out, picked_past}
use Rattle.rows.proofs.picked.picked.Goals as goal

pub loop-row-preserved : goal.loop-row-preserved
loop-row-preserved g c =
    let t = c.args.t.now in
    let few = c.loop-row.invariant.0 in
    let same = c.held-row-items.ensures.is in
    let inside = c.loop-row-test.true in
    elim c.if-test.branch [
      | then-test w ↦ (
        rw (w.found-is, w.push.ensures) (omega (arith, few)),
        λ p h.
            let e = h _ _ (record { shown = _; shows = refl; says = record { met = c.test.ensures } }) in
            w.found-is ∙ w.push.ensures ∙ picked_more p t _ same inside (sym w.if-test.true ∙ e) (c.loop-row.invariant.1 p h),
      )
      | else-test w ↦ (
        rw w.found-is (omega (arith, few)),
        λ p h.
            let e = h _ _ (record { shown = _; shows = refl; says = record { met = c.test.ensures } }) in
            w.found-is ∙ left_out p t _ same inside (sym w.if-test.false ∙ e) (c.loop-row.invariant.1 p h),
      )
    ]

pub returns : goal.returns
returns g c = λ p h. picked_past p c.args.t.now c.held-row-items.ensures.is c.loop-row-test.false (c.loop-row.invariant.1 p h)
