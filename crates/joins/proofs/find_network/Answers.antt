-- A fresh state is given the file and asked for its network.
use Rattle.std.proofs.Common.{◌∙◌, sym, ap, rules}
use Rattle.calculus.proofs.Tests.{join}
use Rattle.model.specs.Join.{same_text}
use Rattle.joins.proofs.JoinCases.{calls_read, net_text, asked_text, file_sorted, file_unsorted}
use Rattle.joins.proofs.find_network.Goals as goal

pub invariant_of-result : goal.invariant_of-result
invariant_of-result c =
    let same = asked_text c.calls-given.result.state _ (sym net_text) (search rules) c.call-reply.ensures in
    let given = calls_read _ _ c.fresh.ensures (search rules) c.calls-given.ensures in
    let sorted = file_sorted given (sym (ap (same_text c.in_ok-text.text.now) same) ∙ join c.same_text.ensures c.if-same_text.true) in
    record { sorted = sorted; given = given.network sorted }

pub returns : goal.returns
returns c =
    let same = asked_text c.calls-given.result.state _ (sym net_text) (search rules) c.call-reply.ensures in
    let given = calls_read _ _ c.fresh.ensures (search rules) c.calls-given.ensures in
    let unsorted = file_unsorted given (sym (ap (same_text c.in_ok-text.text.now) same) ∙ join c.same_text.ensures c.if-same_text.false) in
    rw c.in_ok-text.was unsorted
