-- An accepted route call changes the look-up where it should, and nowhere else. Assumes nothing.
use mathlib.Core.Path.{◌≡◌, refl, sym, ◌∙◌}
use mathlib.Core.Bool.{Bool, true, false, cond, and-false, ◌&&◌}
use Prim.Native.Nat.{ℕ}
use native.Mathlib.Omega.{arith}
use lib.Dec.{eqb}
use Rattle.std.specs.Prelude.{Option, Some, None, is_some}
use borrow.Author.Tests.{eqb-true, ne_eqb, not-false}
use Rattle.calculus.specs.Number.{is_node}
use Rattle.calculus.specs.declared.answer.Answer.{Answer}
use Rattle.calculus.specs.declared.answer.Refusal.{Refusal}
use Rattle.std.specs.Prelude.{Result, Ok, Err}
use Rattle.calculus.specs.declared.network.Network.{Network}
use Rattle.calculus.specs.declared.network.NextHop.TheVariants.{Exact}
use Rattle.calculus.specs.declared.state.State.{State}
use Rattle.calculus.specs.declared.state.Turn.{Turn}
use Rattle.calculus.proofs.Tests.{Way, is, isnt, way, clash, never, not_so, both, within_bounds}
use Rattle.model.specs.Network.{route_to, is_routed, hop, next_hop}
use Rattle.model.specs.State.{fresh}
use Rattle.model.specs.Requests.{network_turn, refused, with_route, nodes_given, route_checks, route_turn}
use Rattle.model.specs.GivenBack.{Consistent}
use Rattle.model.specs.LookUp.{with_default, LookUp}
use Rattle.model.proofs.Checks.{checked_either}
use Rattle.model.proofs.Nodes.{Node, node_destination, InRange, nodes_range}
use Rattle.model.proofs.Consistent.{route_fresh, next_named, route_set}

-- ---- one look-up

hop_between : (n : Network) (x y : ℕ) → Node x → Node y → next_hop n x y ≡ hop (route_to n x y) (route_to n x 0)
unfolding next_hop
hop_between n x y i j = rw (i, j)

no_hop : (n : Network) (x y : ℕ) → (is_node x && is_node y) ≡ false → next_hop n x y ≡ None
unfolding next_hop
no_hop n x y e = rw e

-- ---- a route more

exact_hop : (t : Bool) (next : ℕ) (u v : Option ℕ) → hop (cond t (Some next) u) v ≡ cond t (Some (Exact next)) (hop u v)
exact_hop true next u v = refl
exact_hop false next u v = refl

-- where there was no default
default_hop : (next : ℕ) (u v : Option ℕ) → is_some v ≡ false → hop u (Some next) ≡ with_default next (hop u v)
default_hop next (Some u) v e = refl
default_hop next None None e = refl
default_hop next None (Some v) e = never (sym e)

hop_set : (n : Network) → Consistent n → (a b next : ℕ) → InRange a b next → (x y : ℕ) → Node x → Node y
    → next_hop (with_route n a b next) x y
    ≡ hop (cond (eqb x a && eqb y b) (Some next) (route_to n x y)) (cond (eqb x a && eqb 0 b) (Some next) (route_to n x 0))
hop_set n h a b next r x y i j =
    hop_between (with_route n a b next) x y i j
    ∙ rw (route_set n h a b next r.at r.for x y i (node_destination y j), route_set n h a b next r.at r.for x 0 i refl, next_named next r.by)

exact_set : (n : Network) → Consistent n → (a b next : ℕ) → InRange a b next → Node b → (x y : ℕ)
    → next_hop (with_route n a b next) x y ≡ cond (eqb x a && eqb y b) (Some (Exact next)) (next_hop n x y)
exact_set n h a b next r k x y = go (way (is_node x && is_node y))
  where
    go : Way (is_node x && is_node y) → next_hop (with_route n a b next) x y ≡ cond (eqb x a && eqb y b) (Some (Exact next)) (next_hop n x y)
    go (is e) =
        let i = both (is_node x) (is_node y) e in
        let apart = ne_eqb 0 b (λ z. omega (arith, within_bounds 1 32 b k)) in
        hop_set n h a b next r x y i.0 i.1
        ∙ rw (apart, and-false (eqb x a), hop_between n x y i.0 i.1)
        (exact_hop (eqb x a && eqb y b) next (route_to n x y) (route_to n x 0))
    go (isnt e) =
        let other = not_so (eqb x a && eqb y b)
        (λ w.
        let z = both (eqb x a) (eqb y b) w in
        let i : (is_node x && is_node y) ≡ true = rw (eqb-true x a z.0, eqb-true y b z.1, r.at, k) in
        never (sym e ∙ i)) in
        rw (other, no_hop (with_route n a b next) x y e, no_hop n x y e)

default_set : (n : Network) → Consistent n → (a next : ℕ) → InRange a 0 next → is_routed n a 0 ≡ false → (x y : ℕ) → Node y
    → next_hop (with_route n a 0 next) x y ≡ cond (eqb x a) (with_default next (next_hop n x y)) (next_hop n x y)
default_set n h a next r free x y j = go (way (is_node x)) (way (eqb x a))
  where
    below : eqb y 0 ≡ false
    below = ne_eqb y 0 (λ z. omega (arith, within_bounds 1 32 y j))

    go : Way (is_node x) → Way (eqb x a) → next_hop (with_route n a 0 next) x y ≡ cond (eqb x a) (with_default next (next_hop n x y)) (next_hop n x y)
    go (is i) (is e) =
        let w = eqb-true x a e in
        hop_set n h a 0 next r x y i j
        ∙ rw (e, below, hop_between n x y i j)
        (default_hop next (route_to n x y) (route_to n x 0) (rw w free))
    go (is i) (isnt e) = hop_set n h a 0 next r x y i j ∙ rw (e, hop_between n x y i j)
    go (isnt i) (is e) = never (sym i ∙ rw (eqb-true x a e) r.at)
    go (isnt i) (isnt e) = let z : (is_node x && is_node y) ≡ false = rw i in rw (e, no_hop (with_route n a 0 next) x y z, no_hop n x y z)

-- ---- an accepted call

-- what holds of the network with the route, where no test holds, holds of what an accepted call leaves
route_accepted : (P : Network → Type 0) (s : State) (a b next : ℕ)
    → (InRange a b next → is_routed s.network a b ≡ false → P (with_route s.network a b next))
    → (route_turn s a b next).answer ≡ Ok Answer.Ok → P (route_turn s a b next).state.network
unfolding route_turn
route_accepted P s a b next k =
    checked_either (λ (x : Result Network Refusal). let t = network_turn s x in t.answer ≡ Ok Answer.Ok → P t.state.network) (λ r e. clash cc)
    (route_checks s.opened s.network a b next)
    (λ p e. k (nodes_range s.network a b next (not-false (nodes_given s.network a b next) p.1.0)) p.1.1.1.0)

pub look_up : LookUp
look_up =
    record {
      at_first = none;
      exact = λ s a b next h k e x y.
          route_accepted (λ (m : Network). next_hop m x y ≡ cond (eqb x a && eqb y b) (Some (Exact next)) (next_hop s.network x y)) s a b next
          (λ r f. exact_set s.network h a b next r k x y) e;
      default = λ s a next h e x y j.
          route_accepted (λ (m : Network). next_hop m x y ≡ cond (eqb x a) (with_default next (next_hop s.network x y)) (next_hop s.network x y)) s a 0 next
          (λ r f. default_set s.network h a next r f x y j) e;
    }
  where
    none : (x y : ℕ) → next_hop fresh.network x y ≡ None
    none x y = go (way (is_node x && is_node y))
      where
        go : Way (is_node x && is_node y) → next_hop fresh.network x y ≡ None
        go (is e) =
            let i = both (is_node x) (is_node y) e in
            hop_between fresh.network x y i.0 i.1
            ∙ rw (route_fresh x y i.0 (node_destination y i.1), route_fresh x 0 i.0 refl)
        go (isnt e) = no_hop fresh.network x y e
