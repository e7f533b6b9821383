-- The network as text: what `(net)` writes (document 02, #101). Its promises are in GivenBack. Assumes nothing.
use Rattle.std.specs.Prelude.{ℕ, List, ◌++◌, map, Option}
use Rattle.calculus.specs.Table.{entries_from, of_some}
use Rattle.calculus.specs.declared.network.Network.{Network}
use Rattle.calculus.specs.declared.network.Node.{Node}
use Rattle.forms.specs.Bytes.{joined}
use Rattle.forms.specs.Text.{Form, route, form_line}
use Rattle.forms.specs.Request.{node_of}
use Rattle.model.specs.Network.{place_at, place_destination}

-- the form that gives node a
abbrev pub node_entry : ℕ → Node → Form
node_entry a x = node_of a x.kind x.has x.needs

-- if it was given
abbrev pub node_form : ℕ → Option Node → List Form
node_form a x = of_some (node_entry a) x

-- the form that gives the route at place p of the table, which leads to next; a default is its node's first
abbrev pub route_entry : ℕ → ℕ → Form
route_entry p next = route (place_at p) (place_destination p) next

-- if there is one
abbrev pub route_form : ℕ → Option ℕ → List Form
route_form p next = of_some (route_entry p) next

-- "in its own forms": "nodes rising, then routes by at, then by destination"
abbrev pub network_forms : Network → List Form
network_forms n = entries_from node_form 1 n.nodes ++ entries_from route_form 0 n.routes

-- "a line each and no (end)"
abbrev pub network_lines : Network → List (List ℕ)
network_lines n = map form_line (network_forms n)

-- these lines, one after the other
abbrev pub network_text : Network → List ℕ
network_text n = joined (network_lines n)
