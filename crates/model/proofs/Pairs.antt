-- Two lists, place by place. Assumes nothing.
use mathlib.Core.Path.{◌≡◌, refl, sym, ap, ◌∙◌}
use mathlib.Core.Bool.{Bool, true, false}
use mathlib.Core.List.{List, [], ◌∷◌, ◌++◌}
use Prim.Native.Nat.{ℕ, zero, suc, ◌<◌}
use native.Mathlib.Omega.{arith}
use borrow.Author.Tests.{eqb-true, eq-eqb}
use lib.Dec.{eqb}
use lib.ListN.{length, get_or}
use lib.Seq.{ext_get_or}
use Rattle.calculus.proofs.Tests.{both, never, neither}
use Rattle.model.specs.Lists.{All}
use Rattle.model.specs.Join.{same_text, together, somewhere}

-- ---- the same

pub text_equal : (l m : List ℕ) → same_text l m ≡ true → l ≡ m
unfolding same_text
text_equal [] [] e = refl
text_equal [] (y ∷ m) e = never e
text_equal (x ∷ l) [] e = never e
text_equal (x ∷ l) (y ∷ m) e =
    let k = both (eqb x y) (same_text l m) e in
    rw (eqb-true x y k.0, text_equal l m k.1)

pub text_itself : (l : List ℕ) → same_text l l ≡ true
unfolding same_text
text_itself [] = refl
text_itself (x ∷ l) = rw (eq-eqb x x refl) (text_itself l)

-- ---- somewhere

module _ {A : Type 0} (f : A → A → Bool) (d : A) where
  pub nowhere_at : (l m : List A) → length l ≡ length m → somewhere f l m ≡ false → (i : ℕ) → i < length l → f (get_or l i d) (get_or m i d) ≡ false
  unfolding somewhere
  nowhere_at [] m w e i h = absurd (omega arith)
  nowhere_at (x ∷ l) [] w e i h = absurd (omega arith)
  nowhere_at (x ∷ l) (y ∷ m) w e zero h = (neither (f x y) (somewhere f l m) e).0
  nowhere_at (x ∷ l) (y ∷ m) w e (suc i) h = nowhere_at l m (omega arith) (neither (f x y) (somewhere f l m) e).1 i (omega arith)

  pub at_nowhere : (l m : List A) → ((i : ℕ) → i < length l → f (get_or l i d) (get_or m i d) ≡ false) → somewhere f l m ≡ false
  unfolding somewhere
  at_nowhere [] m h = refl
  at_nowhere (x ∷ l) [] h = refl
  at_nowhere (x ∷ l) (y ∷ m) h = rw (h 0 (omega arith)) (at_nowhere l m (λ i k. h (suc i) (omega arith)))

-- ---- together

module _ {A : Type 0} (f : A → A → A) where
  pub together_all : (P : A → Type 0) → ((x y : A) → P x → P y → P (f x y)) → (l m : List A) → All P l → All P m → All P (together f l m)
  unfolding together
  together_all P k [] m h g = tt
  together_all P k (x ∷ l) [] h g = tt
  together_all P k (x ∷ l) (y ∷ m) h g = (k x y h.0 g.0, together_all P k l m h.1 g.1)

  pub together_length : (l m : List A) → length l ≡ length m → length (together f l m) ≡ length l
  unfolding together
  together_length [] m e = refl
  together_length (x ∷ l) [] e = absurd (omega arith)
  together_length (x ∷ l) (y ∷ m) e = ap suc (together_length l m (omega arith))

  pub together_append : (l m l' m' : List A) → length l ≡ length l'
      → together f (l ++ m) (l' ++ m') ≡ together f l l' ++ together f m m'
  unfolding together
  together_append [] m [] m' e = refl
  together_append [] m (y ∷ l') m' e = absurd (omega arith)
  together_append (x ∷ l) m [] m' e = absurd (omega arith)
  together_append (x ∷ l) m (y ∷ l') m' e = rw (together_append l m l' m' (omega arith))

  module _ (d : A) (z : f d d ≡ d) where
    pub together_at : (l m : List A) → length l ≡ length m → (i : ℕ) → get_or (together f l m) i d ≡ f (get_or l i d) (get_or m i d)
    unfolding together
    together_at [] [] e i = sym z
    together_at [] (y ∷ m) e i = absurd (omega arith)
    together_at (x ∷ l) [] e i = absurd (omega arith)
    together_at (x ∷ l) (y ∷ m) e zero = refl
    together_at (x ∷ l) (y ∷ m) e (suc i) = together_at l m (omega arith) i

    -- it is the list r whose elements are these
    pub together_is : (l m r : List A) → length l ≡ length m → length l ≡ length r
        → ((i : ℕ) → i < length l → f (get_or l i d) (get_or m i d) ≡ get_or r i d) → together f l m ≡ r
    together_is l m r e w h =
        let n = together_length l m e in
        ext_get_or d (together f l m) r (n ∙ w) (λ i k. together_at l m e i ∙ h i (omega arith))
