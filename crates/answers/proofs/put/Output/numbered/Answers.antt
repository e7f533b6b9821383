-- The word, then the number.
use Rattle.answers.proofs.Sets.{adds_append}
use Rattle.answers.proofs.put.Output.numbered.Goals as goal

pub returns : goal.returns
returns c = adds_append c.word.ensures c.number.ensures
