-- Part by part.
use Rattle.std.proofs.Common.{append_assoc}
use Rattle.forms.specs.Text.{text}
use Rattle.answers.proofs.Sets.{adds_append}
use Rattle.answers.proofs.report.GivenNodeOutputLine.put.Goals as goal

pub returns-clause-added : goal.returns-clause-added
unfolding text
returns-clause-added c =
    simp append_assoc
    (adds_append c.word.ensures
    (adds_append c.number.ensures
    (adds_append (rw (← c.kind_word.ensures.word) c.word-2.ensures)
    (adds_append c.credentials.ensures.added (adds_append c.credentials-2.ensures.added c.word-3.ensures)))))
