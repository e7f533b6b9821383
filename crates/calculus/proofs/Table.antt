-- Laws of tables walked in order. Assumes nothing.
use mathlib.Core.Path.{◌≡◌, refl, sym, ap, ◌∙◌}
use mathlib.Core.Bool.{Bool, true, false}
use mathlib.Core.List.{List, [], ◌∷◌, ◌++◌, append-nil, append_assoc}
use Prim.Native.Nat.{ℕ, zero, suc, ◌+◌, ◌<◌}
use native.Mathlib.Nat.{add-zero}
use native.Mathlib.Omega.{arith}
use lib.ListN.{length, get_or, take}
use Rattle.calculus.specs.Table.{entries_from, only_if}

-- by whether the first entry makes anything
pub perhaps : {A : Type 0} (P : List A → Type 0) (b : Bool) {x : A} {more : List A} → (b ≡ true → P (x ∷ more)) → (b ≡ false → P more)
    → P (only_if b x ++ more)
perhaps P true f g = f refl
perhaps P false f g = g refl

-- one entry more
pub entries_next : {A B : Type 0} (f : ℕ → A → List B) (k : ℕ) (l : List A) (i : ℕ) (d : A) → i < length l
    → entries_from f k (take (suc i) l) ≡ entries_from f k (take i l) ++ f (k + i) (get_or l i d)
unfolding entries_from
entries_next f k [] i d h = absurd (omega arith)
entries_next f k (x ∷ l) zero d h = rw (append-nil, add-zero)
entries_next {B = B} f k (x ∷ l) (suc i) d h =
    let e : k + 1 + i ≡ k + suc i = omega arith in
    ap (λ (m : List B). f k x ++ m) (rw e at (entries_next f (k + 1) l i d (omega arith)))
    ∙ sym (append_assoc (f k x) (entries_from f (k + 1) (take i l)) (f (k + suc i) (get_or l i d)))
