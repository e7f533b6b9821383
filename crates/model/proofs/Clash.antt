-- Two networks' lines differ at no place exactly if what the networks share is the same. Assumes nothing.
use mathlib.Core.Path.{◌≡◌, refl, sym, ap, ◌∙◌}
use mathlib.Core.Bool.{Bool, true, false, not, ◌&&◌, and-false}
use mathlib.Core.List.{List, [], ◌∷◌, map, append_cancel_right}
use mathlib.Core.Logic.{◌↔◌}
use Prim.Native.Nat.{ℕ, ◌+◌, ◌-◌, ◌≤◌, ◌<◌}
use native.Mathlib.Omega.{arith}
use borrow.Author.Tests.{ltb-true, ltb-false, not-false}
use lib.Dec.{ltb}
use Rattle.std.specs.Prelude.{Option, Some, None, is_some}
use lib.ListN.{length, get_or, get_or-eq_default}
use Rattle.calculus.proofs.Tests.{Way, is, isnt, way, never, bounds_within, within_bounds}
use Rattle.calculus.specs.declared.network.Kind.{Kind}
use Rattle.calculus.specs.declared.network.Network.{Network}
use Rattle.calculus.specs.declared.network.Node as declared
use Rattle.forms.specs.Bytes.{bytes, joined}
use Rattle.forms.specs.Text.{Form, text, form_line}
use Rattle.forms.specs.Request.{holding, credentials_from, no_credentials}
use Rattle.forms.proofs.Exact.{reads_exactly}
use Rattle.forms.proofs.Credentials.{credentials_same}
use Rattle.model.specs.Network.{node_at, given, route_place, place_at, place_destination, route_to}
use Rattle.model.specs.NetworkText.{node_entry, route_entry, route_form}
use Rattle.model.specs.GivenBack.{IsNode, IsPlace, Consistent}
use Rattle.model.specs.Join.{same_text, place_lines, is_there, differ, clash}
use Rattle.model.specs.Union.{Agree}
use Rattle.model.proofs.Pairs.{text_equal, text_itself, nowhere_at, at_nowhere}
use Rattle.model.proofs.PlaceLines.{node_line, route_line, places_count, entry_line, entry_there}
use Rattle.model.proofs.Nodes.{Node, given_node, place_is}

-- ---- two lines

form_same : (f g : Form) → joined (map form_line (f ∷ [])) ≡ joined (map form_line (g ∷ [])) → f ≡ g
form_same f g e =
    reads_exactly.injective f g (append_cancel_right (text f) (text g) (bytes "\n") (append_cancel_right (form_line f) (form_line g) [] e))

differ_itself : (l : List ℕ) → differ l l ≡ false
differ_itself l = rw (text_itself l) (and-false (is_there l && is_there l))

-- ---- two entries, each of which may be missing

module _ {A : Type 0} (f : A → Form) where
  -- what is there in both is the same where the lines are, if a form tells all that P holds of
  entries_same : (P : Option A → Type 0) → ((x y : A) → P (Some x) → P (Some y) → f x ≡ f y → x ≡ y)
      → (x y : Option A) → P x → P y → differ (entry_line f x) (entry_line f y) ≡ false → is_some x ≡ true → is_some y ≡ true → x ≡ y
  entries_same P tells (Some x) (Some y) h k e p q =
      let s = same_text (entry_line f (Some x)) (entry_line f (Some y)) in
      let d : not s ≡ false = rw (entry_there f (Some x), entry_there f (Some y)) at e in
      ap Some (tells x y h k (form_same (f x) (f y) (text_equal _ _ (not-false s d))))
  entries_same P tells (Some x) None h k e p q = never q
  entries_same P tells None y h k e p q = never p

  entries_agree : (x y : Option A) → (is_some x ≡ true → is_some y ≡ true → x ≡ y) → differ (entry_line f x) (entry_line f y) ≡ false
  entries_agree (Some x) (Some y) h = ap (λ (z : Option A). differ (entry_line f z) (entry_line f (Some y))) (h refl refl) ∙ differ_itself (entry_line f (Some y))
  entries_agree (Some x) None h = rw (and-false (is_there (entry_line f (Some x))))
  entries_agree None y h = refl

set_same : (l m : List Bool) → length l ≡ 64 → length m ≡ 64 → credentials_from 0 l ≡ credentials_from 0 m → l ≡ m
set_same l m h k e = sym (credentials_same l h) ∙ ap (holding no_credentials) e ∙ credentials_same m k

-- a node's form has all that the node is
node_same : (a : ℕ) (x y : declared.Node) → IsNode x → IsNode y → node_entry a x ≡ node_entry a y → x ≡ y
node_same a x y h k e =
    rebuilt (cc) (set_same x.has y.has h.has k.has (cc)) (set_same x.needs y.needs h.needs k.needs (cc))
  where
    rebuilt : {d f : Kind} {i j r s : List Bool} → d ≡ f → i ≡ j → r ≡ s
        → ◌≡◌ {A = declared.Node} (record { kind = d; has = i; needs = r }) (record { kind = f; has = j; needs = s })
    rebuilt u v w = rw (u, v, w)

-- a route's its next node
route_same : (p x y : ℕ) → route_entry p x ≡ route_entry p y → x ≡ y
route_same p x y e = cc

-- ---- an entry as it is looked up

-- node a's place
node_stored : (n : Network) (a : ℕ) → Node a → node_at n a ≡ get_or n.nodes (a - 1) None
unfolding node_at
node_stored n a e = rw e

-- place j is node 1 + j's
node_place : (n : Network) (j : ℕ) → j < 32 → node_at n (1 + j) ≡ get_or n.nodes j None
node_place n j w =
    let e : 1 + j - 1 ≡ j = omega arith in
    rw e at (node_stored n (1 + j) (bounds_within 1 32 (1 + j) (omega arith) (omega arith)))

-- place p is that of its node and its destination
route_place_lem : (n : Network) (p : ℕ) → route_to n (place_at p) (place_destination p) ≡ get_or n.routes p None
route_place_lem n p = ap (λ (q : ℕ). get_or n.routes q None) (omega arith)

-- a place with a route is one of the table
routed_below : (n : Network) → Consistent n → (p : ℕ) → is_some (get_or n.routes p None) ≡ true → p < 1056
routed_below n h p e = go (way (ltb p 1056))
  where
    go : Way (ltb p 1056) → p < 1056
    go (is w) = ltb-true p 1056 w
    go (isnt w) =
        let out : length n.routes ≤ p = omega (arith, h.routes, ltb-false p 1056 w) in
        never (rw (get_or-eq_default n.routes None {n = p} out) at e)

route_at_lem : (n : Network) → Consistent n → (p : ℕ) → p < 1056
    → get_or (place_lines n) (32 + p) [] ≡ joined (map form_line (route_form p (get_or n.routes p None)))
route_at_lem n h p w = route_line n p h.nodes (omega (arith, h.routes))

-- ---- the clash

-- where networks agree, two entries of one place are the same
module _ (n m : Network) (g : Agree n m) where
  pub agree_node : (j : ℕ) → j < 32 → let x = get_or n.nodes j None in let y = get_or m.nodes j None in
      is_some x ≡ true → is_some y ≡ true → x ≡ y
  agree_node j w u v =
      let s = node_place n j w in
      let t = node_place m j w in
      sym s ∙ g.nodes (1 + j) (rw (s, given) u) (rw (t, given) v) ∙ t

  pub agree_route : (p : ℕ) → let x = get_or n.routes p None in let y = get_or m.routes p None in
      is_some x ≡ true → is_some y ≡ true → x ≡ y
  agree_route p u v =
      let s = route_place_lem n p in
      let t = route_place_lem m p in
      sym s ∙ g.routes (place_at p) (place_destination p) (rw s u) (rw t v) ∙ t

module _ (n m : Network) (h : Consistent n) (k : Consistent m) where
  places_apart : clash n m ≡ false → (i : ℕ) → i < 1088 → differ (get_or (place_lines n) i []) (get_or (place_lines m) i []) ≡ false
  places_apart e i w =
      nowhere_at differ [] (place_lines n) (place_lines m) (places_count n h ∙ sym (places_count m k)) e i (omega (arith, places_count n h))

  clash_agree : clash n m ≡ false → Agree n m
  clash_agree e = record { nodes = nodes; routes = λ a b. routes (route_place a b) }
    where
      nodes : (a : ℕ) → given n a ≡ true → given m a ≡ true → node_at n a ≡ node_at m a
      nodes a g j =
          let i = given_node n a g in
          let z = within_bounds 1 32 a i in
          let s = node_stored n a i in
          let t = node_stored m a i in
          let w : a - 1 < 32 = omega arith in
          let d = rw (node_line n (a - 1) h.nodes w, node_line m (a - 1) k.nodes w) at (places_apart e (a - 1) (omega arith)) in
          let u = rw (s, given) at g in
          let v = rw (t, given) at j in
          s ∙ entries_same (node_entry (1 + (a - 1))) IsPlace (node_same (1 + (a - 1))) _ _ (place_is n h (a - 1)) (place_is m k (a - 1)) d u v ∙ sym t

      routes : (p : ℕ) → let x = get_or n.routes p None in let y = get_or m.routes p None in is_some x ≡ true → is_some y ≡ true → x ≡ y
      routes p g j =
          let w = routed_below n h p g in
          let d = rw (route_at_lem n h p w, route_at_lem m k p w) at (places_apart e (32 + p) (omega arith)) in
          entries_same (route_entry p) (λ x. Unit) (λ x y u v. route_same p x y) _ _ tt tt d g j

  agree_clash : Agree n m → clash n m ≡ false
  agree_clash g = at_nowhere differ [] (place_lines n) (place_lines m) (λ i w. go i (omega (arith, places_count n h)) (way (ltb i 32)))
    where
      go : (i : ℕ) → i < 1088 → Way (ltb i 32) → differ (get_or (place_lines n) i []) (get_or (place_lines m) i []) ≡ false
      go i w (is e) =
          let b = ltb-true i 32 e in
          rw (node_line n i h.nodes b, node_line m i k.nodes b)
          (entries_agree (node_entry (1 + i)) _ _ (agree_node n m g i b))
      go i w (isnt e) =
          let p = i - 32 in
          let z : i ≡ 32 + p = omega (arith, ltb-false i 32 e) in
          rw (z, route_at_lem n h p (omega arith), route_at_lem m k p (omega arith))
          (entries_agree (route_entry p) _ _ (agree_route n m g p))

  pub clash_exactly : (clash n m ≡ false) ↔ Agree n m
  clash_exactly = (clash_agree, agree_clash)
