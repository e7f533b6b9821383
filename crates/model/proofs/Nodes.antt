-- A consistent network: its routes lead to nodes that were given, and its gateways were given. Assumes nothing.
use mathlib.Core.Path.{◌≡◌, refl}
use mathlib.Core.Bool.{Bool, true, false, cond, ◌&&◌}
use Prim.Native.Nat.{ℕ, ◌-◌}
use native.Mathlib.Omega.{arith}
use Rattle.std.specs.Prelude.{Option, Some, None, is_some}
use borrow.Author.Tests.{eqb-true}
use lib.ListN.{get_or}
use Rattle.calculus.proofs.Tests.{Way, is, isnt, way, both, never, either, bounds_within, within_bounds}
use Rattle.calculus.specs.Number.{is_node, is_destination}
use Rattle.calculus.specs.declared.network.Network.{Network}
use Rattle.calculus.specs.declared.network.Node as declared
use Rattle.model.specs.Network.{node_at, given, is_gateway_node, is_default, route_to, hop, next_hop}
use Rattle.model.specs.Requests.{destination_given, nodes_given}
use Rattle.model.specs.SetUp.{LeadsToGiven, HoldsNetwork}
use Rattle.model.specs.GivenBack.{IsPlace, Consistent}
use Rattle.model.proofs.Lists.{all_get}

abbrev pub Node : ℕ → Type 0
Node a = is_node a ≡ true

abbrev pub Destination : ℕ → Type 0
Destination b = is_destination b ≡ true

pub given_node : (n : Network) (a : ℕ) → given n a ≡ true → Node a
unfolding node_at
given_node n a = go (is_node a) (get_or n.nodes (a - 1) None)
  where
    go : (b : Bool) (x : Option declared.Node) → is_some (cond b x None) ≡ true → b ≡ true
    go true x h = refl
    go false x h = never h

-- the nodes of a route
pub record AllGiven (n : Network) (a b next : ℕ) : Type 0 where
  pub at : given n a ≡ true
  pub for : destination_given n b ≡ true
  pub by : given n next ≡ true

pub nodes_given_lem : (n : Network) (a b next : ℕ) → nodes_given n a b next ≡ true → AllGiven n a b next
nodes_given_lem n a b next e =
    let i = both (given n a) (destination_given n b && given n next) e in
    let j = both (destination_given n b) (given n next) i.1 in
    record { at = i.0; for = j.0; by = j.1 }

pub node_destination : (b : ℕ) → Node b → Destination b
node_destination b h = bounds_within 0 32 b (omega arith) (within_bounds 1 32 b h).1

given_destination : (n : Network) (b : ℕ) → destination_given n b ≡ true → Destination b
given_destination n b e = go (way (is_default b))
  where
    go : Way (is_default b) → Destination b
    go (is w) = bounds_within 0 32 b (omega arith) (omega (arith, eqb-true b 0 w))
    go (isnt w) = node_destination b (given_node n b (rw w at e))

-- so its numbers are in range
pub record InRange (a b next : ℕ) : Type 0 where
  pub at : Node a
  pub for : Destination b
  pub by : Node next

pub nodes_range : (n : Network) (a b next : ℕ) → nodes_given n a b next ≡ true → InRange a b next
nodes_range n a b next e =
    let g = nodes_given_lem n a b next e in
    record { at = given_node n a g.at; for = given_destination n b g.for; by = given_node n next g.by }

-- ---- routes and gateways

gateway_given : (x : Option declared.Node) → is_gateway_node x ≡ true → is_some x ≡ true
gateway_given None e = never e
gateway_given (Some x) e = refl

-- whichever of the two routes is taken; the order in which they are asked is for `LookUp` and the listings to tell
either_given : (n : Network) (exact default : Option ℕ) → ((next : ℕ) → exact ≡ Some next → given n next ≡ true)
    → ((next : ℕ) → default ≡ Some next → given n next ≡ true) → LeadsToGiven n (hop exact default)
either_given n (Some exact) (Some default) i j = search (i exact refl, j default refl)
either_given n (Some exact) None i j = i exact refl
either_given n None (Some default) i j = j default refl
either_given n None None i j = tt

module _ (n : Network) (h : Consistent n) where
  pub place_is : (j : ℕ) → IsPlace (get_or n.nodes j None)
  place_is j = all_get IsPlace n.nodes j None h.places tt

  leads : (a b next : ℕ) → Node a → Destination b → route_to n a b ≡ Some next → given n next ≡ true
  leads a b next i j e = (nodes_given_lem n a b next (h.routed a b next i j e).0).by

  pub hop_given : (a b : ℕ) → LeadsToGiven n (next_hop n a b)
  unfolding next_hop
  hop_given a b =
      either (LeadsToGiven n) (is_node a && is_node b)
      (λ e.
      let k = both (is_node a) (is_node b) e in
      either_given n (route_to n a b) (route_to n a 0) (λ next. leads a b next k.0 (node_destination b k.1))
      (λ next. leads a 0 next k.0 refl))
      (λ e. tt)

  pub network_holds : HoldsNetwork n
  network_holds = record { routes = hop_given; gateways = λ a. gateway_given (node_at n a) }
