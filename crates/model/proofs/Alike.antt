-- Two lists of associations that have the same ones, both in order, are the same list. Assumes nothing.
use mathlib.Core.Path.{◌≡◌, refl, sym, ap, subst, ◌∙◌}
use mathlib.Core.Bool.{Bool, true, false, cond}
use mathlib.Core.List.{List, [], ◌∷◌}
use Prim.Native.Nat.{ℕ}
use native.Mathlib.Omega.{arith}
use lib.ListN.{get_or, drop}
use Rattle.calculus.proofs.Tests.{clash, not_so}
use Rattle.calculus.specs.declared.answer.ShownAssociation.{ShownAssociation}
use Rattle.model.specs.Lists.{All, before, Rising}
use Rattle.model.specs.Show.{is_for, all_for, association_key}
use Rattle.model.proofs.Lists.{all_map}
use Rattle.model.proofs.Places.{same_itself, same_parts}
use Rattle.model.proofs.Rising.{Before, one_way, Compared, earlier, later, same, compared}

-- x is another association
abbrev pub Other : Bool → ℕ → ℕ → ShownAssociation → Type 0
Other out a q x = is_for out a q x ≡ false

pub all_other : (out : Bool) (a q : ℕ) (m : List ShownAssociation) → All (Other out a q) m → all_for out a q m ≡ []
all_other out a q [] h = refl
all_other out a q (x ∷ m) h = rw h.0 (all_other out a q m h.1)

abbrev Earlier : ShownAssociation → ShownAssociation → Type 0
Earlier = Before association_key

-- y is the association x
abbrev is_same : ShownAssociation → ShownAssociation → Bool
is_same x y = is_for x.out x.node x.peer y

abbrev all_same : ShownAssociation → List ShownAssociation → List ShownAssociation
all_same x m = all_for x.out x.node x.peer m

-- its key is x's then, and only then
same_key : (x y : ShownAssociation) → is_same x y ≡ true → association_key y ≡ association_key x
same_key x y e = let w = same_parts y.out y.node y.peer x.out x.node x.peer e in rw (w.0, w.1, w.2) refl

same_number : (b c : Bool) → ◌≡◌ {A = ℕ} (cond b 1 0) (cond c 1 0) → b ≡ c
same_number true true e = refl
same_number true false e = absurd (omega arith)
same_number false true e = absurd (omega arith)
same_number false false e = refl

key_same : (x y : ShownAssociation) → association_key x ≡ association_key y → is_same x y ≡ true
key_same x y e =
    let a = ap (λ (k : List ℕ). get_or k 0 0) e in
    let w = same_number x.out y.out (ap (λ (k : List ℕ). get_or k 1 0) e) in
    let q = ap (λ (k : List ℕ). get_or k 2 0) e in
    rw (a, w, q) (same_itself y.out y.node y.peer)

same_earlier : (x y z : ShownAssociation) → is_same x z ≡ true → Earlier y z → Earlier y x
same_earlier x y z e h = subst (λ k. before (association_key y) k ≡ true) (same_key x z e) h

same_first : (x : ShownAssociation) (m : List ShownAssociation) → all_same x (x ∷ m) ≡ x ∷ all_same x m
same_first x m = rw (same_itself x.out x.node x.peer) refl

-- one list has x, the other has none of it
missing : (x : ShownAssociation) (m s : List ShownAssociation) → all_same x (x ∷ m) ≡ all_same x s → all_same x s ≡ [] → ⊥
missing x m s e f =
    let g : x ∷ all_same x m ≡ [] = sym (same_first x m) ∙ e ∙ f in
    clash cc

-- where x comes before y, it is neither y nor behind y
none_behind : (x y : ShownAssociation) (s : List ShownAssociation) → Earlier x y → All (Earlier y) s → all_same x (y ∷ s) ≡ []
none_behind x y s h k =
    all_other x.out x.node x.peer (y ∷ s) (
      not_so _ (λ e. let f = same_earlier x x y e h in one_way (association_key x) (association_key x) f f),
      all_map _ _ (λ z i. not_so _ (λ e. one_way (association_key x) (association_key y) h (same_earlier x y z e i))) s k,
    )

-- two lists have the same associations
abbrev pub Alike : List ShownAssociation → List ShownAssociation → Type 0
Alike m s = (out : Bool) (a q : ℕ) → all_for out a q m ≡ all_for out a q s

alike_behind : (x : ShownAssociation) (m s : List ShownAssociation) → Alike (x ∷ m) (x ∷ s) → Alike m s
alike_behind x m s e out a q = go (is_for out a q x) (e out a q)
  where
    go : (b : Bool) → cond b (x ∷ all_for out a q m) (all_for out a q m) ≡ cond b (x ∷ all_for out a q s) (all_for out a q s)
        → all_for out a q m ≡ all_for out a q s
    go true f = ap (drop 1) f
    go false f = f

pub rising_alike : (m s : List ShownAssociation) → Rising association_key m → Rising association_key s → Alike m s → m ≡ s
rising_alike [] [] h k e = refl
rising_alike [] (y ∷ s) h k e = absurd (missing y s [] (sym (e y.out y.node y.peer)) refl)
rising_alike (x ∷ m) [] h k e = absurd (missing x m [] (e x.out x.node x.peer) refl)
rising_alike (x ∷ m) (y ∷ s) h k e = go (rising_alike m s h.1 k.1) (compared (association_key x) (association_key y))
  where
    go : (Alike m s → m ≡ s) → Compared (association_key x) (association_key y) → x ∷ m ≡ y ∷ s
    go more (earlier i) = absurd (missing x m (y ∷ s) (e x.out x.node x.peer) (none_behind x y s i k.0))
    go more (later i) = absurd (missing y s (x ∷ m) (sym (e y.out y.node y.peer)) (none_behind y x m i h.0))
    go more (same i) =
        let f = rw (same_first x m, key_same x y i) at (e x.out x.node x.peer) in
        let g : x ≡ y = ap (λ (l : List ShownAssociation). get_or l 0 x) f in
        rw g (ap (λ (l : List ShownAssociation). y ∷ l) (more (alike_behind y m s (rw g at e))))
