-- The forms of a consistent network, given to a fresh state, fill its tables. Assumes nothing.
use mathlib.Core.Path.{◌≡◌, refl, sym, ap, subst, ◌∙◌}
use mathlib.Core.Bool.{true, false}
use mathlib.Core.List.{List, [], ◌∷◌, ◌++◌}
use Prim.Native.Nat.{ℕ, ◌+◌, ◌-◌, ◌<◌}
use native.Mathlib.Omega.{arith}
use Rattle.std.specs.Prelude.{Option, Some, None, is_some}
use lib.ListN.{length, get_or, set, replicate, length-append}
use lib.Seq.{set_at, get_or_at}
use Rattle.calculus.specs.Number.{is_node}
use Rattle.calculus.proofs.Tests.{either, bounds_within}
use Rattle.calculus.specs.declared.network.Network.{Network}
use Rattle.calculus.specs.declared.network.Node as declared
use Rattle.calculus.specs.declared.state.State.{State}
use Rattle.model.specs.Lists.{All}
use Rattle.model.specs.Network.{node_at, given, route_place, place_at, place_destination, route_to, is_routed}
use Rattle.model.specs.NetworkText.{node_form, route_form, network_forms}
use Rattle.model.specs.State.{fresh}
use Rattle.model.specs.GivenBack.{IsNode, IsPlace, Passes, Consistent, fresh_with}
use Rattle.model.proofs.Lists.{all_at}
use Rattle.model.proofs.Nodes.{Node, nodes_range}
use Rattle.model.proofs.Consistent.{next_named}
use Rattle.model.proofs.Gives.{ok, node_ok, route_ok, Gives, none_left, one_more, gives_append, table_gives}

-- ---- the nodes

pub empty_free : (n : Network) (a : ℕ) → get_or n.nodes (a - 1) None ≡ None → given n a ≡ false
unfolding node_at
empty_free n a e = either (λ (x : Option declared.Node). is_some x ≡ false) (is_node a) (λ i. rw e) (λ i. refl)

module _ (n : Network) (h : Consistent n) where
  -- while the nodes are given there are no routes
  abbrev with_nodes : List (Option declared.Node) → State
  with_nodes l = fresh_with (record { nodes = l; routes = replicate 1056 None })

  node_fills : (p : List (Option declared.Node)) (x : Option declared.Node) (r l : List (Option declared.Node)) → n.nodes ≡ p ++ x ∷ l
      → Gives (with_nodes (p ++ None ∷ r)) (node_form (1 + length p) x) (with_nodes (p ++ x ∷ r))
  node_fills p None r l w = none_left
  node_fills p (Some x) r l w =
      let a = 1 + length p in
      let place : IsNode x = all_at IsPlace p (Some x) l (subst (All IsPlace) w h.places) in
      let few : length p < 32 = omega (arith, h.nodes, ap length w, length-append p (Some x ∷ l)) in
      let i : Node a = bounds_within 1 32 a (omega arith) (omega arith) in
      let m : Network = record { nodes = p ++ None ∷ r; routes = replicate 1056 None } in
      let free = empty_free m a (get_or_at p None r None (a - 1) (omega arith)) in
      one_more
      (node_ok m a x i free place ∙ ap (λ (t : List (Option declared.Node)). ok (with_nodes t)) (set_at p None r (Some x) (a - 1) (omega arith)))
      none_left

  -- ---- the routes

  abbrev with_routes : List (Option ℕ) → State
  with_routes l = fresh_with (record { nodes = n.nodes; routes = l })

  -- the route at a place is one that is accepted
  pub place_routed : (p next : ℕ) → p < 1056 → get_or n.routes p None ≡ Some next → Passes n (place_at p) (place_destination p) next
  place_routed p next w e =
      let same : route_place (place_at p) (place_destination p) ≡ p = omega arith in
      let stored : route_to n (place_at p) (place_destination p) ≡ Some next = rw same e in
      let at = bounds_within 1 32 (place_at p) (omega arith) (omega arith) in
      let for = bounds_within 0 32 (place_destination p) (omega arith) (omega arith) in
      h.routed (place_at p) (place_destination p) next at for stored

  route_fills : (p : List (Option ℕ)) (next : Option ℕ) (r l : List (Option ℕ)) → n.routes ≡ p ++ next ∷ l
      → Gives (with_routes (p ++ None ∷ r)) (route_form (0 + length p) next) (with_routes (p ++ next ∷ r))
  unfolding node_at
  route_fills p None r l w = none_left
  route_fills p (Some next) r l w =
      let k = 0 + length p in
      let a = place_at k in
      let b = place_destination k in
      let few : k < 1056 = omega (arith, h.routes, ap length w, length-append p (Some next ∷ l)) in
      let stored : get_or n.routes k None ≡ Some next = rw w (get_or_at p (Some next) l None k (omega arith)) in
      let m : Network = record { nodes = n.nodes; routes = p ++ None ∷ r } in
      let place : route_place a b ≡ k = omega arith in
      let free : is_routed m a b ≡ false = rw (place, get_or_at p None r None k (omega arith)) in
      let passes = place_routed k next few stored in
      one_more
      (route_ok m a b next passes free
      ∙ ap (λ (v : Option ℕ). ok (with_routes (set (p ++ None ∷ r) (route_place a b) v))) (next_named next (nodes_range n a b next passes.0).by)
      ∙ ap (λ (t : List (Option ℕ)). ok (with_routes t))
      (ap (λ (q : ℕ). set (p ++ None ∷ r) q (Some next)) place ∙ set_at p None r (Some next) k (omega arith)))
      none_left

  -- ---- both

  pub text_gives : Gives fresh (network_forms n) (fresh_with n)
  text_gives =
      let nodes = table_gives with_nodes None node_form 1 n.nodes node_fills [] n.nodes refl in
      let routes = table_gives with_routes None route_form 0 n.routes route_fills [] n.routes refl in
      gives_append (rw h.nodes at nodes) (rw h.routes at routes)
