-- Part by part.
use Rattle.std.proofs.Common.{[], ◌∷◌}
use Rattle.answers.proofs.Sets.{adds_append, adds_more}
use Rattle.answers.proofs.put.Output.three.Goals as goal

pub returns : goal.returns
returns c =
    let ns = c.args.c ∷ [] in
    adds_more c.args.word.now c.args.a (c.args.b ∷ ns)
    (adds_append c.word.ensures c.numbered.ensures)
    (adds_more [] c.args.b ns c.numbered-2.ensures c.one.ensures)
