-- The nodes, then the routes.
use Rattle.std.proofs.Common.{◌+◌}
use Rattle.calculus.specs.Table.{entries_from}
use Rattle.forms.specs.Text.{form_line}
use Rattle.forms.proofs.Joined.{lines_append}
use Rattle.model.specs.NetworkText.{node_form, route_form}
use Rattle.answers.proofs.Sets.{adds_append}
use Rattle.reports.proofs.Tables.{lines_entries, entries_later}
use Rattle.reports.proofs.network.put_network.Goals as goal

pub returns-clause-added : goal.returns-clause-added
returns-clause-added c =
    let n = c.args.n.now in
    rw (
      lines_append form_line (entries_from node_form 1 n.nodes) (entries_from route_form 0 n.routes),
      entries_later node_form 1 0 n.nodes,
      lines_entries form_line (λ p. node_form (1 + p)) 0 n.nodes,
      lines_entries form_line route_form 0 n.routes,
    )
    (adds_append c.put_table.ensures.added c.put_table-2.ensures.added)
