-- What was read into three places is the list of the definition.
use Rattle.std.proofs.Common.{refl}
use Rattle.forms.proofs.Held.{fields_all, fields_others, fields_more}
use Rattle.forms.proofs.fields.read_fields.Goals as goal
use Rattle.forms.proofs.fields.read_fields.Goals.{else-list-count-via-then-list-count+else-list-s, else-list-count-via-else-list-count}

pub returns-then-list-s : goal.returns-then-list-s
returns-then-list-s c =
    fields_all c.read_list.ensures c.in_ok-list.was c.args.count refl c.read_list.auto.into c.if-list-count.true c.if-list-s.true

pub returns-else-list-count : goal.returns-else-list-count
returns-else-list-count c =
    elim c.else-list-count.branch [
      | else-list-count-via-then-list-count+else-list-s w ↦ fields_more c.read_list.ensures c.in_ok-list.was c.args.count refl c.read_list.auto.into w.if-list-count.true w.if-list-s.false
      | else-list-count-via-else-list-count w ↦ fields_others c.read_list.ensures c.in_ok-list.was c.args.count refl c.read_list.auto.into w.if-list-count.false
    ]
