-- Two texts compared. Assumes nothing.
use mathlib.Core.Path.{◌≡◌, refl, ap}
use mathlib.Core.Bool.{Bool, ◌&&◌}
use mathlib.Core.List.{List, [], ◌∷◌}
use Prim.Native.Nat.{ℕ}
use lib.Dec.{eqb}
use lib.Pointwise.{pointwise}
use Rattle.model.specs.Join.{same_text}

-- the library's equality of two texts is the definition's
pub same_text_is : (a b : List ℕ) → pointwise eqb a b ≡ same_text a b
unfolding same_text
same_text_is [] [] = refl
same_text_is [] (y ∷ b) = refl
same_text_is (x ∷ a) [] = refl
same_text_is (x ∷ a) (y ∷ b) = ap (λ (z : Bool). eqb x y && z) (same_text_is a b)
