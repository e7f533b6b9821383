-- The places of the users' table, and the associations whose users are there. Assumes nothing.
use mathlib.Core.Path.{◌≡◌, refl}
use mathlib.Core.Bool.{Bool, true, false, cond, ◌&&◌}
use Prim.Native.Nat.{ℕ, ◌/◌, ◌%◌, ◌≤◌, ◌<◌}
use native.Mathlib.Omega.{arith}
use lib.Dec.{leb, eqb}
use borrow.Author.Tests.{leb-true, leb-false, eqb-true, eq-eqb}
use Rattle.calculus.specs.Number.{is_node}
use Rattle.calculus.proofs.Tests.{Way, is, isnt, way, both, bounds_within, within_bounds, never}
use Rattle.model.specs.Row.{same_way, same_association, users_place, place_out, place_node, place_peer, are_nodes}

-- ---- the same association

same_way_lem : (x y : Bool) → same_way x y ≡ true → x ≡ y
same_way_lem true true e = refl
same_way_lem true false e = never e
same_way_lem false true e = never e
same_way_lem false false e = refl

pub same_itself : (out : Bool) (a q : ℕ) → same_association out a q out a q ≡ true
same_itself true a q = rw (eq-eqb a a refl, eq-eqb q q refl)
same_itself false a q = rw (eq-eqb a a refl, eq-eqb q q refl)

pub same_parts : (o : Bool) (b s : ℕ) (out : Bool) (a q : ℕ) → same_association o b s out a q ≡ true → (o ≡ out) × (b ≡ a) × (s ≡ q)
same_parts o b s out a q e =
    let h = both (same_way o out) (eqb b a && eqb s q) e in
    let k = both (eqb b a) (eqb s q) h.1 in
    (same_way_lem o out h.0, eqb-true b a k.0, eqb-true s q k.1)

-- ---- two nodes

pub are_nodes_lem : (a q : ℕ) → is_node a ≡ true → is_node q ≡ true → are_nodes a q ≡ true
are_nodes_lem a q ha hq = rw (ha, hq)

abbrev Nodes : ℕ → ℕ → Type 0
Nodes a q = (1 ≤ a) × (a ≤ 32) × (1 ≤ q) × (q ≤ 32)

pub node_bounds : (a q : ℕ) → are_nodes a q ≡ true → Nodes a q
node_bounds a q h =
    let e = both (is_node a) (is_node q) h in
    let b = within_bounds 1 32 a e.0 in
    let c = within_bounds 1 32 q e.1 in
    (b.0, b.1, c.0, c.1)

-- ---- places

pub one_place : (o : Bool) (b s : ℕ) (out : Bool) (a q : ℕ) → are_nodes b s ≡ true → are_nodes a q ≡ true
    → users_place o b s ≡ users_place out a q → same_association o b s out a q ≡ true
one_place o b s out a q h k = go o out (node_bounds b s h) (node_bounds a q k)
  where
    go : (o out : Bool) → Nodes b s → Nodes a q → users_place o b s ≡ users_place out a q → same_association o b s out a q ≡ true
    go true true i j e = rw (eq-eqb b a (omega arith), eq-eqb s q (omega arith))
    go true false i j e = absurd (omega arith)
    go false true i j e = absurd (omega arith)
    go false false i j e = rw (eq-eqb b a (omega arith), eq-eqb s q (omega arith))

pub place_below : (out : Bool) (a q : ℕ) → are_nodes a q ≡ true → users_place out a q < 2048
place_below true a q h = omega (arith, node_bounds a q h)
place_below false a q h = omega (arith, node_bounds a q h)

-- p is the place of the association that is there; and the first half of a node's places is In
pub record At (p : ℕ) : Type 0 where
  pub place : users_place (place_out p) (place_node p) (place_peer p) ≡ p
  pub half : cond (place_out p) 1 0 ≡ p % 64 / 32

pub at_place : (p : ℕ) → At p
at_place p = go (way (leb 32 (p % 64)))
  where
    go : Way (leb 32 (p % 64)) → At p
    go (is e) = let h = leb-true 32 (p % 64) e in record { place = rw e (omega arith); half = rw e (omega arith) }
    go (isnt e) = let h = leb-false 32 (p % 64) e in record { place = rw e (omega arith); half = rw e (omega arith) }

pub nodes_at : (p : ℕ) → p < 2048 → are_nodes (place_node p) (place_peer p) ≡ true
nodes_at p h =
    are_nodes_lem (place_node p) (place_peer p)
    (bounds_within 1 32 (place_node p) (omega arith) (omega arith))
    (bounds_within 1 32 (place_peer p) (omega arith) (omega arith))
