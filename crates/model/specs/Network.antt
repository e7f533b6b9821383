-- The network that node and route calls gave, and what is looked up in it. Assumes nothing.
use Rattle.std.specs.Prelude.{ℕ, ◌+◌, ◌*◌, ◌-◌, ◌/◌, ◌%◌, Bool, true, false, cond, not, ◌&&◌, ◌||◌, List, [], ◌∷◌, Option, Some, None, is_some, eqb, get_or}
use Rattle.calculus.specs.Number.{is_node}
use Rattle.calculus.specs.declared.network.Kind.{Kind}
use Rattle.calculus.specs.declared.network.Kind.TheVariants.{Host, Gateway}
use Rattle.calculus.specs.declared.network.Node.{Node}
use Rattle.calculus.specs.declared.network.Network.{Network}
use Rattle.calculus.specs.declared.network.NextHop.{NextHop}
use Rattle.calculus.specs.declared.network.NextHop.TheVariants.{Exact, Default}
use Rattle.forms.specs.Request.{no_credentials}

-- node a, if it was given
unfoldable pub node_at : Network → ℕ → Option Node
node_at n a = cond (is_node a) (get_or n.nodes (a - 1) None) None

abbrev pub given : Network → ℕ → Bool
given n a = is_some (node_at n a)

abbrev pub is_gate : Kind → Bool
is_gate Host = false
is_gate Gateway = true

abbrev pub is_gateway_node : Option Node → Bool
is_gateway_node None = false
is_gateway_node (Some x) = is_gate x.kind

-- a was given as a gateway
abbrev pub is_gateway : Network → ℕ → Bool
is_gateway n a = is_gateway_node (node_at n a)

-- destination 0: the default route, which is taken "wherever node 2 has no route of its own"
abbrev pub is_default : ℕ → Bool
is_default b = eqb b 0

-- the place of the route from node a for destination b, and the two of a place
abbrev pub route_place : ℕ → ℕ → ℕ
route_place a b = 33 * (a - 1) + b

abbrev pub place_at : ℕ → ℕ
place_at p = p / 33 + 1

abbrev pub place_destination : ℕ → ℕ
place_destination p = p % 33

-- the next node of the route from node a for destination b, if one was given
abbrev pub route_to : Network → ℕ → ℕ → Option ℕ
route_to n a b = get_or n.routes (route_place a b) None

-- the next node that a route names: none by 0, which is no node
abbrev pub next_node : ℕ → Option ℕ
next_node next = cond (eqb next 0) None (Some next)

-- one was given
abbrev pub is_routed : Network → ℕ → ℕ → Bool
is_routed n a b = is_some (route_to n a b)

-- "The look-up now says exact, default or none", by the next node of either route
abbrev pub hop : Option ℕ → Option ℕ → Option NextHop
hop (Some exact) default = Some (Exact exact)
hop None (Some default) = Some (Default default)
hop None None = None

-- "A route (at, destination, next) gives the next node.": from node a for node b, by its own route, else by a's default
unfoldable pub next_hop : Network → ℕ → ℕ → Option NextHop
next_hop n a b = cond (is_node a && is_node b) (hop (route_to n a b) (route_to n a 0)) None

-- every credential of the second set is in the first
unfoldable pub covers : List Bool → List Bool → Bool
covers has [] = true
covers [] (n ∷ needs) = not n && covers [] needs
covers (h ∷ has) (n ∷ needs) = (h || not n) && covers has needs

-- what a node has, and what it needs; one that was not given has nothing and needs nothing
abbrev pub had : Option Node → List Bool
had None = no_credentials
had (Some x) = x.has

abbrev pub needed : Option Node → List Bool
needed None = no_credentials
needed (Some x) = x.needs

-- "q has all that a needs"
unfoldable pub has_all_needed : Network → ℕ → ℕ → Bool
has_all_needed n a q = covers (had (node_at n q)) (needed (node_at n a))
