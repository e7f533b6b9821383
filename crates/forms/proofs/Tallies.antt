-- A node's credentials, as the code takes them one by one, are those of the definitions. Assumes nothing.
use mathlib.Core.Path.{◌≡◌, refl, sym, ap, ◌∙◌}
use mathlib.Core.Bool.{Bool, true, false, cond, ◌&&◌}
use mathlib.Core.List.{List}
use mathlib.Core.Option.{Option, none, some}
use Prim.Native.Nat.{ℕ, suc, ◌+◌, ◌-◌, ◌≤◌, ◌<◌}
use native.Mathlib.Omega.{arith}
use borrow.Author.Tests.{eq-eqb, ne_eqb, eqb-true, eqb-false}
use lib.Dec.{eqb}
use lib.ListN.{length, get_or, take, drop, set, length-drop, drop_of_length-le}
use lib.Seq.{drop-cons}
use Rattle.std.specs.Prelude as std
use Rattle.std.specs.Prelude.{Some, None, Result, Ok, Err}
use Rattle.calculus.specs.Number.{within, is_node}
use Rattle.calculus.specs.declared.answer.Refusal.{Refusal}
use Rattle.calculus.specs.declared.answer.Refusal.TheVariants.{Unreadable}
use Rattle.calculus.specs.declared.network.Kind.{Kind}
use Rattle.calculus.specs.declared.request.Request.{Request}
use Rattle.calculus.specs.declared.request.Request.TheVariants.{Node}
use Rattle.calculus.proofs.Tests.{Way, is, isnt, way, join, clash}
use Rattle.forms.specs.declared.node.Credentials.{Credentials}
use Rattle.forms.specs.Bytes.{bytes}
use Rattle.forms.specs.Text.{Form, node}
use Rattle.forms.specs.Read.{starts, list, Listed, listed, broken, is_text, needs_of, has_of, has_at}
use Rattle.forms.specs.Request.{rising, holding, no_credentials, in_range, reading, asked}
use Rattle.forms.specs.Held.{set_of, gathered, node_asked, needs_by, needs_asked, has_asked}
use Rattle.forms.proofs.Lists.{list_inside}
use Rattle.forms.proofs.Parts.{rest, byte_inside}

-- ---- one credential after the other

-- the credentials before place i of ns are in the set x, and the next one is at least `least`
pub record Taking (ns : List ℕ) (x : List Bool) (least i : ℕ) : Type 0 where
  pub inside : i ≤ length ns
  pub size : length x ≡ 64
  pub rises : rising 0 ns ≡ rising least (drop i ns)
  pub holds : holding no_credentials ns ≡ holding x (drop i ns)

module _ {ns : List ℕ} {x : List Bool} {least i : ℕ} (m : Taking ns x least i) where
  pub taking_more : {y : List Bool} → i < length ns → within least 63 (get_or ns i 0) ≡ true → y ≡ set x (get_or ns i 0) true
      → length y ≡ 64 → Taking ns y (get_or ns i 0 + 1) (i + 1)
  taking_more h e q s =
      let n : suc i ≡ i + 1 = omega arith in
      record {
        inside = omega arith;
        size = s;
        rises = m.rises ∙ rw (drop-cons ns i 0 h, e, ← n);
        holds = m.holds ∙ rw (drop-cons ns i 0 h, q, ← n);
      }

  -- one is out of range, or out of order
  pub taking_stops : i < length ns → within least 63 (get_or ns i 0) ≡ false → None ≡ set_of ns
  unfolding set_of
  taking_stops h e =
      let n : rising 0 ns ≡ false = m.rises ∙ rw (drop-cons ns i 0 h, e) in
      rw n

  pub taking_all : length ns ≤ i → Some x ≡ set_of ns
  unfolding set_of
  taking_all h =
      let r : rising 0 ns ≡ true = m.rises ∙ rw (drop_of_length-le ns h) in
      let s : holding no_credentials ns ≡ x = m.holds ∙ rw (drop_of_length-le ns h) in
      rw (r, s)

-- ---- a node's form

node_asked_lem : (a : ℕ) (k : Kind) (has needs : List ℕ) → reading (node a k has needs) ≡ node_asked a k (set_of has) (set_of needs)
unfolding set_of
node_asked_lem a k has needs = go (way (is_node a)) (rising 0 has) (rising 0 needs)
  where
    go : Way (is_node a) → (c d : Bool) → let x = holding no_credentials has in
        let y = holding no_credentials needs in
        in_range (is_node a && (c && d)) (Node a k x y) ≡ node_asked a k (cond c (Some x) None) (cond d (Some y) None)
    go (is e) true true = rw e
    go (is e) true false = rw e
    go (is e) false d = rw e
    go (isnt e) true true = rw e
    go (isnt e) true false = rw e
    go (isnt e) false d = rw e

asked_cond : (b : Bool) (x y : Option Form) → asked (cond b x y) ≡ cond b (asked x) (asked y)
asked_cond true x y = refl
asked_cond false x y = refl

needs_asked_lem : (a : ℕ) (k : Kind) (has l : List ℕ) (r : Listed) → asked (needs_of a k has l r) ≡ needs_by a k (set_of has) l (gathered r)
needs_asked_lem a k has l broken = refl
needs_asked_lem a k has l (listed needs j) =
    asked_cond (is_text (bytes ")") (drop j l)) (some (node a k has needs)) none ∙ rw (node_asked_lem a k has needs)

has_asked_lem : (a : ℕ) (k : Kind) (l : List ℕ) → asked (has_at 10 200 a k l) ≡ has_asked a k l (gathered (list 10 200 0 l))
unfolding has_at
has_asked_lem a k l = go (list 10 200 0 l)
  where
    go : (r : Listed) → asked (has_of 10 200 a k l r) ≡ has_asked a k l (gathered r)
    go broken = refl
    go (listed has j) =
        asked_cond (starts (bytes " (needs") (drop j l)) (needs_of a k has (drop 7 (drop j l)) (list 10 200 0 (drop 7 (drop j l)))) none
        ∙ ap (λ (r : Result Request Refusal). cond (starts (bytes " (needs") (drop j l)) r (Err Unreadable))
        (needs_asked_lem a k has (drop 7 (drop j l)) (list 10 200 0 (drop 7 (drop j l))))

-- what is read, by the credentials g that were read on the way
module _ (a : ℕ) (k : Kind) (l : List ℕ) {g : std.Option Credentials} {r : Result Request Refusal} (e : g ≡ gathered (list 10 200 0 l)) where
  pub needs_read : (has : std.Option (List Bool)) → r ≡ needs_by a k has l g → r ≡ needs_asked a k has l
  needs_read has h = h ∙ ap (needs_by a k has l) e

  pub has_read : r ≡ has_asked a k l g → r ≡ asked (has_at 10 200 a k l)
  has_read h = h ∙ ap (has_asked a k l) e ∙ sym (has_asked_lem a k l)

-- behind `(needs`, and where that is not there
module _ (a : ℕ) (k : Kind) (l : List ℕ) {g : Credentials} (e : Some g ≡ gathered (list 10 200 0 l)) where
  pub has_then : {r : Result Request Refusal} → starts (bytes " (needs") (take (length l - g.used) (drop g.used l)) ≡ true
      → (let m = take (length l - g.used) (drop g.used l) in r ≡ needs_asked a k g.set (take (length m - 7) (drop 7 m)))
      → r ≡ asked (has_at 10 200 a k l)
  has_then s h =
      has_read a k l e (h ∙ rest (needs_asked a k g.set) 7 (take (length l - g.used) (drop g.used l))
      ∙ rest (λ x. needs_asked a k g.set (drop 7 x)) g.used l ∙ rw (join (rest (starts (bytes " (needs")) g.used l) s))

  pub has_else : starts (bytes " (needs") (take (length l - g.used) (drop g.used l)) ≡ false → Err Unreadable ≡ asked (has_at 10 200 a k l)
  has_else s = has_read a k l e (rw (join (rest (starts (bytes " (needs")) g.used l) s))

-- a list of credentials ends inside the line
pub gathered_inside : (l : List ℕ) (g : Credentials) → Some g ≡ gathered (list 10 200 0 l) → g.used ≤ length l
gathered_inside l g e = go (list 10 200 0 l) refl
  where
    go : (r : Listed) → list 10 200 0 l ≡ r → g.used ≤ length l
    go broken q = let z : Some g ≡ None = rw q at e in clash cc
    go (listed ns k) q =
        let z : Some g ≡ Some (record { set = set_of ns; used = k }) = rw q at e in
        let same : g ≡ record { set = set_of ns; used = k } = cc in
        rw same (list_inside 10 200 l ns k q)

-- a closing bracket that ends the line
pub ends_here : (l : List ℕ) (at : ℕ) → starts (bytes ")") (drop at l) ≡ true → eqb (at + 1) (length l) ≡ is_text (bytes ")") (drop at l)
ends_here l at h = rw (h, length-drop) (go (way (eqb (at + 1) (length l))))
  where
    inside : at < length l
    inside = byte_inside 41 l at h

    go : Way (eqb (at + 1) (length l)) → eqb (at + 1) (length l) ≡ eqb (length l - at) 1
    go (is e) = rw (e, eq-eqb (length l - at) 1 (omega (arith, eqb-true (at + 1) (length l) e)))
    go (isnt e) = rw (e, ne_eqb (length l - at) 1 (λ q. eqb-false (at + 1) (length l) e (omega (arith, inside))))
