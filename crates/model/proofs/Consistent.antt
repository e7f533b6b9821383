-- Node and route calls keep a network consistent. Assumes nothing.
use mathlib.Core.Path.{◌≡◌, refl, sym, ap, subst, ◌∙◌}
use mathlib.Core.Bool.{Bool, true, false, cond, ◌&&◌, ◌||◌}
use mathlib.Core.List.{List}
use Prim.Native.Nat.{ℕ, ◌-◌, ◌<◌}
use native.Mathlib.Decide.{ℕ_discrete}
use native.Mathlib.Omega.{arith}
use borrow.Author.Tests.{eqb-true, eq-eqb, ne_eqb}
use lib.Dec.{eqb}
use lib.ListN.{length, get_or, length-set, length-replicate, get_or-replicate}
use lib.Seq.{get_or-set_same, get_or-set_other}
use Rattle.std.specs.Prelude.{Option, Some, None, is_some}
use Rattle.calculus.specs.Number.{is_node}
use Rattle.calculus.proofs.Tests.{never, either, both, not_so, within_bounds}
use Rattle.calculus.specs.declared.network.Kind.{Kind}
use Rattle.calculus.specs.declared.network.Network.{Network}
use Rattle.calculus.specs.declared.network.Node as declared
use Rattle.model.specs.Network.{node_at, given, is_default, route_place, route_to, next_node}
use Rattle.model.specs.State.{fresh}
use Rattle.model.specs.Requests.{with_node, with_route, destination_given, nodes_given, leads_back}
use Rattle.model.specs.GivenBack.{IsPlace, Passes, Consistent}
use Rattle.model.proofs.Lists.{all_set, all_replicate, get_set}
use Rattle.model.proofs.Nodes.{Node, Destination, nodes_given_lem, InRange, nodes_range}

place_below : (a b : ℕ) → Node a → Destination b → route_place a b < 1056
place_below a b h g = omega (arith, within_bounds 1 32 a h, within_bounds 0 32 b g)

pub route_fresh : (a b : ℕ) → Node a → Destination b → route_to fresh.network a b ≡ None
route_fresh a b i j = get_or-replicate {A = Option ℕ} 1056 (route_place a b) None None (place_below a b i j)

pub consistent_fresh : Consistent fresh.network
consistent_fresh =
    record {
      nodes = length-replicate {A = Option declared.Node} 32 None;
      routes = length-replicate {A = Option ℕ} 1056 None;
      places = all_replicate IsPlace 32 None tt;
      routed = λ a b next i j e. never (ap is_some (sym (route_fresh a b i j) ∙ e));
    }

-- ---- nodes more

-- m has the nodes of n
module _ (n m : Network) (keeps : (a : ℕ) → given n a ≡ true → given m a ≡ true) where
  destination_kept : (b : ℕ) → destination_given n b ≡ true → destination_given m b ≡ true
  destination_kept b = go (is_default b)
    where
      go : (t : Bool) → (t || given n b) ≡ true → (t || given m b) ≡ true
      go true h = refl
      go false h = keeps b h

  pub nodes_kept : (a b next : ℕ) → nodes_given n a b next ≡ true → nodes_given m a b next ≡ true
  nodes_kept a b next e =
      let g = nodes_given_lem n a b next e in
      rw (keeps a g.at, destination_kept b g.for, keeps next g.by)

module _ (n : Network) (a : ℕ) (k : Kind) (has needs : List Bool) where
  given_still : (b : ℕ) → given n b ≡ true → given (with_node n a k has needs) b ≡ true
  unfolding node_at
  given_still b = go (is_node b)
    where
      go : (t : Bool) → is_some (cond t (get_or n.nodes (b - 1) None) None) ≡ true
          → is_some (cond t (get_or (with_node n a k has needs).nodes (b - 1) None) None) ≡ true
      go true h = get_set (λ (x : Option declared.Node). is_some x ≡ true) n.nodes (b - 1) (a - 1) _ None h refl
      go false h = never h

  pub consistent_node : length has ≡ 64 → length needs ≡ 64 → Consistent n → Consistent (with_node n a k has needs)
  consistent_node i j h =
      let x : Option declared.Node = Some (record { kind = k; has = has; needs = needs }) in
      record {
        nodes = length-set n.nodes (a - 1) x ∙ h.nodes;
        routes = h.routes;
        places = all_set IsPlace n.nodes (a - 1) x h.places (record { has = i; needs = j });
        routed = λ b d next u v e.
            let r = h.routed b d next u v e in
            (nodes_kept n (with_node n a k has needs) given_still b d next r.0, r.1);
      }

-- ---- a route more

same_place : (a b c d : ℕ) → Node a → Destination b → Node c → Destination d → route_place a b ≡ route_place c d → (a ≡ c) × (b ≡ d)
same_place a b c d h g i j e =
    let u = within_bounds 1 32 a h in
    let v = within_bounds 0 32 b g in
    let w = within_bounds 1 32 c i in
    let x = within_bounds 0 32 d j in
    (omega arith, omega arith)

pub next_named : (next : ℕ) → Node next → next_node next ≡ Some next
next_named next by = rw (ne_eqb next 0 (λ z. omega (arith, within_bounds 1 32 next by)))

module _ (n : Network) (h : Consistent n) (a b next : ℕ) (at : Node a) (for : Destination b) where
  pub route_set : (c d : ℕ) → Node c → Destination d → route_to (with_route n a b next) c d ≡ cond (eqb c a && eqb d b) (next_node next) (route_to n c d)
  route_set c d i j = go (ℕ_discrete (route_place c d) (route_place a b))
    where
      go : Dec (route_place c d ≡ route_place a b) → route_to (with_route n a b next) c d ≡ cond (eqb c a && eqb d b) (next_node next) (route_to n c d)
      go (yes w) =
          let s = same_place c d a b i j at for w in
          let same = get_or-set_same n.routes (route_place a b) (next_node next) None (omega (arith, place_below a b at for, h.routes)) in
          rw (w, same, eq-eqb c a s.0, eq-eqb d b s.1)
      go (no w) =
          let apart = not_so (eqb c a && eqb d b)
          (λ e. let z = both (eqb c a) (eqb d b) e in w (rw (eqb-true c a z.0, eqb-true d b z.1))) in
          rw apart (get_or-set_other n.routes (route_place a b) (route_place c d) (next_node next) None w)

pub consistent_route : (n : Network) (a b next : ℕ) → nodes_given n a b next ≡ true → leads_back a b next ≡ false → Consistent n
    → Consistent (with_route n a b next)
unfolding node_at
consistent_route n a b next e f h =
    record {
      nodes = h.nodes;
      routes = length-set n.routes (route_place a b) (next_node next) ∙ h.routes;
      places = h.places;
      routed = λ c d m i j.
          subst (λ (x : Option ℕ). x ≡ Some m → Passes n c d m) (sym (route_set n h a b next r.at r.for c d i j)) (passes c d m i j);
    }
  where
    r : InRange a b next
    r = nodes_range n a b next e

    passes : (c d m : ℕ) → Node c → Destination d → cond (eqb c a && eqb d b) (next_node next) (route_to n c d) ≡ Some m → Passes n c d m
    passes c d m i j =
        either (λ (x : Option ℕ). x ≡ Some m → Passes n c d m) (eqb c a && eqb d b)
        (λ w k.
        let z = both (eqb c a) (eqb d b) w in
        let named : Some next ≡ Some m = sym (next_named next r.by) ∙ k in
        let same : m ≡ next = cc in
        rw (eqb-true c a z.0, eqb-true d b z.1, same) (e, f))
        (λ w. h.routed c d m i j)
