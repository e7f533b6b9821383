-- Part by part.
use Rattle.forms.specs.Answer.{association_line}
use Rattle.answers.proofs.Sets.{adds_append, adds_none}
use Rattle.answers.proofs.report.ShownAssociationOutputLine.put.Goals as goal

pub returns-clause-added : goal.returns-clause-added
unfolding association_line
returns-clause-added c =
    adds_append c.word.ensures
    (adds_append c.number.ensures
    (adds_append (rw (← c.direction_word.ensures) c.word-2.ensures) (adds_append c.three.ensures adds_none)))
