-- Words at the front of a line. Assumes nothing.
use mathlib.Core.Path.{◌≡◌, refl, ap, ◌∙◌}
use mathlib.Core.List.{List, [], ◌∷◌, ◌++◌, append-nil}
use mathlib.Core.Bool.{true, cond, ◌&&◌}
use Prim.Native.Nat.{ℕ, ◌≤◌}
use native.Mathlib.Omega.{arith}
use borrow.Author.Tests.{eqb-true}
use lib.Dec.{eqb}
use lib.ListN.{length, drop, length-append}
use Rattle.calculus.proofs.Tests.{never, both}
use Rattle.forms.specs.Read.{starts, is_text}
use Rattle.std.specs.List.{starts_with}
use Rattle.forms.proofs.Ways.{cond_way}

-- the library's test of a front
pub starts_same : (w l : List ℕ) → starts_with eqb l w ≡ starts w l
unfolding starts
starts_same [] l = refl
starts_same (a ∷ w) [] = refl
starts_same (a ∷ w) (c ∷ l) = ap (λ b. eqb a c && b) (starts_same w l)

pub front_inside : (w l r : List ℕ) → l ≡ w ++ r → length w ≤ length l
front_inside w l r e = omega (arith, ap length e, length-append w r)

-- a front as long as the whole is the whole
pub front_whole : (w l r : List ℕ) → l ≡ w ++ r → length l ≡ length w → l ≡ w
front_whole w l [] e h = e ∙ append-nil w
front_whole w l (c ∷ r) e h = absurd (omega (arith, ap length e, length-append w (c ∷ r)))

pub starts_sound : (w l : List ℕ) → starts w l ≡ true → l ≡ w ++ drop (length w) l
unfolding starts
starts_sound [] l e = refl
starts_sound (a ∷ w) [] e = never e
starts_sound (a ∷ w) (c ∷ l) e =
    let h = both (eqb a c) (starts w l) e in
    rw (← eqb-true a c h.0, ← starts_sound w l h.1)

pub starts_inside : (w l : List ℕ) → starts w l ≡ true → length w ≤ length l
starts_inside w l e = front_inside w l (drop (length w) l) (starts_sound w l e)

-- a line that begins with w is read behind it, and any other line otherwise
pub starts_way : {R : Type 0} {r : R} (P : List ℕ → Type 0) (w l : List ℕ) (x y : R) → (x ≡ r → P (w ++ drop (length w) l)) → (y ≡ r → P l)
    → cond (starts w l) x y ≡ r → P l
starts_way P w l x y f g = cond_way (starts w l) x y (λ s e. rw (starts_sound w l s) (f e)) (λ s. g)

pub is_text_sound : (w l : List ℕ) → is_text w l ≡ true → l ≡ w
is_text_sound w l e =
    let h = both (starts w l) (eqb (length l) (length w)) e in
    front_whole w l (drop (length w) l) (starts_sound w l h.0) (eqb-true (length l) (length w) h.1)
