-- The network of both: every node and route of either. Assumes nothing.
use mathlib.Core.Path.{◌≡◌, refl, sym, subst, ◌∙◌}
use mathlib.Core.Bool.{Bool, true, false, cond}
use mathlib.Core.List.{List, []}
use Prim.Native.Nat.{ℕ, ◌-◌, ◌<◌}
use native.Mathlib.Omega.{arith}
use Rattle.std.specs.Prelude.{Option, Some, None, is_some}
use lib.ListN.{length, get_or}
use Rattle.calculus.specs.Number.{is_node}
use Rattle.calculus.specs.Table.{entries_from}
use Rattle.calculus.proofs.Tests.{either, never}
use Rattle.calculus.specs.declared.network.Network.{Network}
use Rattle.calculus.specs.declared.network.Node as declared
use Rattle.model.specs.Network.{node_at, given, route_place, route_to, is_routed}
use Rattle.model.specs.NetworkText.{network_text}
use Rattle.model.specs.State.{fresh}
use Rattle.model.specs.GivenBack.{IsPlace, Passes, Consistent}
use Rattle.model.specs.Join.{either_entry, union}
use Rattle.model.specs.Union.{Agree}
use Rattle.model.proofs.Lists.{replicate_at}
use Rattle.model.proofs.Nodes.{Node, Destination}
use Rattle.model.proofs.Consistent.{nodes_kept, consistent_fresh}
use Rattle.model.proofs.Fills.{empty_free}
use Rattle.model.proofs.Pairs.{together_all, together_length, together_at, together_is}
use Rattle.model.proofs.Clash.{agree_node, agree_route}

-- ---- two entries

either_first : {A : Type 0} (b : Bool) (x y : A) → (b ≡ false → x ≡ y) → cond b x y ≡ x
either_first true x y h = refl
either_first false x y h = sym (h refl)

-- where both are there they are the same, and where neither is there too
either_comm : {A : Type 0} (b c : Bool) (x y : A) → (b ≡ true → c ≡ true → x ≡ y) → (b ≡ false → c ≡ false → y ≡ x) → cond b x y ≡ cond c y x
either_comm true true x y h k = h refl refl
either_comm true false x y h k = refl
either_comm false true x y h k = refl
either_comm false false x y h k = k refl refl

no_entry : {A : Type 0} (x : Option A) → is_some x ≡ false → x ≡ None
no_entry None e = refl
no_entry (Some x) e = never (sym e)

-- ---- the network of both

abbrev GivenNode : Option declared.Node → Type 0
GivenNode x = is_some x ≡ true

module _ (n m : Network) (h : Consistent n) (k : Consistent m) where
  nodes_length : length n.nodes ≡ length m.nodes
  nodes_length = h.nodes ∙ sym k.nodes

  routes_length : length n.routes ≡ length m.routes
  routes_length = h.routes ∙ sym k.routes

  pub union_node : (a : ℕ) → node_at (union n m) a ≡ cond (given n a) (node_at n a) (node_at m a)
  unfolding node_at
  union_node a =
      rw (together_at either_entry None refl n.nodes m.nodes nodes_length (a - 1))
      (go (is_node a) (get_or n.nodes (a - 1) None) (get_or m.nodes (a - 1) None))
    where
      go : (b : Bool) (x y : Option declared.Node) → cond b (either_entry x y) None ≡ cond (is_some (cond b x None)) (cond b x None) (cond b y None)
      go true x y = refl
      go false x y = refl

  pub union_route : (a b : ℕ) → route_to (union n m) a b ≡ cond (is_routed n a b) (route_to n a b) (route_to m a b)
  union_route a b = together_at either_entry None refl n.routes m.routes routes_length (route_place a b)

  keeps_first : (a : ℕ) → given n a ≡ true → given (union n m) a ≡ true
  keeps_first a e = subst GivenNode (sym (union_node a)) (either GivenNode (given n a) (λ w. e) (λ w. never (sym w ∙ e)))

  keeps_second : (a : ℕ) → given m a ≡ true → given (union n m) a ≡ true
  keeps_second a e = subst GivenNode (sym (union_node a)) (either GivenNode (given n a) (λ w. w) (λ w. e))

  pub union_consistent : Consistent (union n m)
  union_consistent =
      record {
        nodes = together_length either_entry n.nodes m.nodes nodes_length ∙ h.nodes;
        routes = together_length either_entry n.routes m.routes routes_length ∙ h.routes;
        places = together_all either_entry IsPlace (λ x y u v. either IsPlace (is_some x) (λ e. u) (λ e. v)) n.nodes m.nodes h.places k.places;
        routed = λ a b next i j. rw (union_route a b) (passes a b next i j);
      }
    where
      passes : (a b next : ℕ) → Node a → Destination b → cond (is_routed n a b) (route_to n a b) (route_to m a b) ≡ Some next
          → Passes (union n m) a b next
      passes a b next i j =
          either (λ (x : Option ℕ). x ≡ Some next → Passes (union n m) a b next) (is_routed n a b)
          (λ w e. let p = h.routed a b next i j e in (nodes_kept n (union n m) keeps_first a b next p.0, p.1))
          (λ w e. let p = k.routed a b next i j e in (nodes_kept m (union n m) keeps_second a b next p.0, p.1))

  -- it is the network r whose entries are these
  union_is : (r : Network) → Consistent r
      → ((j : ℕ) → j < 32 → either_entry (get_or n.nodes j None) (get_or m.nodes j None) ≡ get_or r.nodes j None)
      → ((p : ℕ) → p < 1056 → either_entry (get_or n.routes p None) (get_or m.routes p None) ≡ get_or r.routes p None)
      → union n m ≡ r
  union_is r g nodes routes =
      let same_nodes = h.nodes ∙ sym g.nodes in
      let same-routes = h.routes ∙ sym g.routes in
      rebuilt
      (together_is either_entry None refl n.nodes m.nodes r.nodes nodes_length same_nodes (λ j w. nodes j (omega (arith, h.nodes))))
      (together_is either_entry None refl n.routes m.routes r.routes routes_length same-routes (λ p w. routes p (omega (arith, h.routes))))
    where
      rebuilt : {l s : List (Option declared.Node)} {t u : List (Option ℕ)} → l ≡ s → t ≡ u
          → ◌≡◌ {A = Network} (record { nodes = l; routes = t }) (record { nodes = s; routes = u })
      rebuilt e f = rw (e, f)

-- where they agree, it is all one which is named first
pub union_comm : (n m : Network) → Consistent n → Consistent m → Agree n m → union n m ≡ union m n
union_comm n m h k g =
    union_is n m h k (union m n) (union_consistent m n k h)
    (λ j w.
    either_comm _ _ _ _ (agree_node n m g j w) (λ e f. no_entry _ f ∙ sym (no_entry _ e))
    ∙ sym (together_at either_entry None refl m.nodes n.nodes (nodes_length m n k h) j))
    (λ p w.
    either_comm _ _ _ _ (agree_route n m g p) (λ e f. no_entry _ f ∙ sym (no_entry _ e))
    ∙ sym (together_at either_entry None refl m.routes n.routes (routes_length m n k h) p))

-- n has all that m has
union_first : (n m : Network) → Consistent n → Consistent m
    → ((j : ℕ) → is_some (get_or n.nodes j None) ≡ false → get_or n.nodes j None ≡ get_or m.nodes j None)
    → ((p : ℕ) → is_some (get_or n.routes p None) ≡ false → get_or n.routes p None ≡ get_or m.routes p None)
    → union n m ≡ n
union_first n m h k nodes routes = union_is n m h k n h (λ j w. either_first _ _ _ (nodes j)) (λ p w. either_first _ _ _ (routes p))

pub union_itself : (n : Network) → Consistent n → union n n ≡ n
union_itself n h = union_first n n h h (λ j e. refl) (λ p e. refl)

-- ---- the empty network

empty_node : (j : ℕ) → get_or fresh.network.nodes j None ≡ None
empty_node j = replicate_at {A = Option declared.Node} 32 None j

empty_route : (p : ℕ) → get_or fresh.network.routes p None ≡ None
empty_route p = replicate_at {A = Option ℕ} 1056 None p

pub union_empty : (n : Network) → Consistent n → union n fresh.network ≡ n
union_empty n h =
    union_first n fresh.network h consistent_fresh (λ j e. no_entry _ e ∙ sym (empty_node j)) (λ p e. no_entry _ e ∙ sym (empty_route p))

pub agree_empty : (n : Network) → Agree n fresh.network
agree_empty n =
    record {
      nodes = λ a e f. never (sym (empty_free fresh.network a (empty_node (a - 1))) ∙ f);
      routes = λ a b e f. never (rw (empty_route (route_place a b)) at f);
    }

pub empty_text : network_text fresh.network ≡ []
unfolding entries_from
empty_text = refl
