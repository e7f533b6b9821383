-- Part by part.
use Rattle.std.proofs.Common.{[], ◌∷◌}
use Rattle.answers.proofs.Sets.{adds_append, adds_more}
use Rattle.answers.proofs.put.Output.two.Goals as goal

pub returns : goal.returns
returns c = adds_more c.args.word.now c.args.a (c.args.b ∷ []) (adds_append c.word.ensures c.numbered.ensures) c.one.ensures
