-- Lines one after the other. Assumes nothing.
use mathlib.Core.Path.{◌≡◌, refl}
use mathlib.Core.List.{List, [], ◌∷◌, ◌++◌, map, map-append, append_assoc}
use Prim.Native.Nat.{ℕ}
use Rattle.forms.specs.Bytes.{joined}

pub joined_append : (l m : List (List ℕ)) → joined (l ++ m) ≡ joined l ++ joined m
joined_append [] m = refl
joined_append (x ∷ l) m = rw (joined_append l m, append_assoc x (joined l) (joined m))

-- the lines of a list in two parts
pub lines_append : {A : Type 0} (line : A → List ℕ) (l m : List A) → joined (map line (l ++ m)) ≡ joined (map line l) ++ joined (map line m)
lines_append line l m = rw (map-append line l m) (joined_append (map line l) (map line m))
