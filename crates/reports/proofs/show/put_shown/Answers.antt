-- 59,392 bytes leave room for `(end)`.
use Rattle.std.proofs.Common.{[], ◌∷◌, map, arith, append-nil, take_all}
use Rattle.forms.specs.Answer.{association_line, end_line}
use Rattle.forms.proofs.Joined.{joined_append}
use Rattle.model.specs.Requests.{association_at, shown}
use Rattle.answers.proofs.Sets.{adds_append}
use Rattle.answers.proofs.Writes.{written_adds}
use Rattle.reports.proofs.Tables.{lines_entries}
use Rattle.reports.proofs.show.put_shown.Goals as goal

pub returns-clause-added : goal.returns-clause-added
unfolding shown
returns-clause-added c =
    let users = c.args.users.now in
    rw (
      joined_append (map association_line (shown users)) (end_line ∷ []),
      append-nil,
      take_all 2048 users (omega arith),
      lines_entries association_line association_at 0 users,
    )
    (adds_append c.put_table.ensures.added (written_adds (omega arith) c.write.ensures))
