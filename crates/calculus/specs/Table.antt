-- Tables walked in order, for the texts of a set, of show and of a network. Assumes nothing.
use Rattle.std.specs.Prelude.{ℕ, ◌+◌, Bool, cond, List, [], ◌∷◌, ◌++◌, Option, Some, None}

-- what f makes of each entry of a table, one after the other; the first entry has the number k
unfoldable pub entries_from : {A B : Type 0} → (ℕ → A → List B) → ℕ → List A → List B
entries_from f k [] = []
entries_from f k (x ∷ l) = f k x ++ entries_from f (k + 1) l

-- x alone where the test holds, else nothing
abbrev pub only_if : {A : Type 0} → Bool → A → List A
only_if b x = cond b (x ∷ []) []

-- f of an entry alone where it is there, else nothing
abbrev pub of_some : {A B : Type 0} → (A → B) → Option A → List B
of_some f None = []
of_some f (Some x) = f x ∷ []
