-- Part by part.
use Rattle.answers.proofs.Sets.{adds_append, adds_none}
use Rattle.answers.proofs.put.Output.made_by_default.Goals as goal

pub returns-clause-added : goal.returns-clause-added
returns-clause-added c = adds_append c.word.ensures (adds_append c.number.ensures (adds_append c.word-2.ensures adds_none))
