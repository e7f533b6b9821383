-- Each credential that is held is put in front of what is left.
use Rattle.std.proofs.Common.{arith, length-append, rules}
use Rattle.forms.proofs.Credentials.{credentials_width}
use Rattle.answers.proofs.Sets.{left_part, adds_append}
use Rattle.answers.proofs.Credentials.{left_held, left_not_held, left_end}
use Rattle.answers.proofs.put.Output.credentials.Goals.{then-is_held, else-is_held}
use Rattle.answers.proofs.put.Output.credentials.Goals as goal

pub numbered-requires : goal.numbered-requires
numbered-requires c =
    let x = left_held _ _ (search rules) (search rules) c.loop-n.invariant in
    let e = c.word.ensures in
    omega (arith, c.requires, credentials_width c.args.held.now (search rules), e.put.place, e.size, simp length-append at x.place, x.size)

pub loop-n-preserved : goal.loop-n-preserved
loop-n-preserved c =
    elim c.if-is_held.branch [
      | then-is_held w ↦ rw w.self-is (left_part _ w.numbered.ensures (left_held _ _ (search rules) (search rules) c.loop-n.invariant))
      | else-is_held w ↦ rw w.self-is (left_not_held _ _ (search rules) (search rules) c.loop-n.invariant)
    ]

pub word-requires-2 : goal.word-requires-2
word-requires-2 c =
    let x = left_end _ _ (search rules) c.loop-n.invariant in
    let e = c.word.ensures in
    omega (arith, c.requires, credentials_width c.args.held.now (search rules), e.put.place, e.size, x.place, x.size)

pub returns-clause-added : goal.returns-clause-added
returns-clause-added c = adds_append c.word.ensures ((left_end _ _ (search rules) c.loop-n.invariant).all _ c.word-2.ensures)

pub returns-clause-few : goal.returns-clause-few
returns-clause-few c =
    let x = left_end _ _ (search rules) c.loop-n.invariant in
    omega (arith, credentials_width c.args.held.now (search rules), c.word.ensures.put.place, c.word-2.ensures.put.place, x.place)
