-- Part by part.
use Rattle.std.proofs.Common.{[]}
use Rattle.forms.specs.Text.{list_text}
use Rattle.answers.proofs.Sets.{adds_append, adds_more}
use Rattle.answers.proofs.put.Output.one.Goals as goal

pub returns : goal.returns
unfolding list_text
returns c = adds_more c.args.word.now c.args.n [] (adds_append c.word.ensures c.numbered.ensures) c.word-2.ensures
