-- Walks over lists, and lists in order. Assumes nothing.
use Rattle.std.specs.Prelude.{ℕ, zero, suc, ◌+◌, ◌≡◌, Bool, true, false, cond, ◌&&◌, ◌||◌, List, [], ◌∷◌, ltb, eqb}

-- f from the front on, beginning with b
abbrev pub fold : {A B : Type 0} → (B → A → B) → B → List A → B
fold f b [] = b
fold f b (x ∷ xs) = fold f (f b x) xs

-- how many elements f holds of
abbrev pub tally : {A : Type 0} → (A → Bool) → List A → ℕ
tally f [] = 0
tally f (x ∷ xs) = cond (f x) 1 0 + tally f xs

-- the elements that f holds of, in their order
abbrev pub those : {A : Type 0} → (A → Bool) → List A → List A
those f [] = []
those f (x ∷ xs) = cond (f x) (x ∷ those f xs) (those f xs)

-- P holds of each element
abbrev pub All : {A : Type 0} → (A → Type 0) → List A → Type 0
All P [] = Unit
All P (x ∷ xs) = P x × All P xs

-- the k numbers after n
unfoldable pub up_from : ℕ → ℕ → List ℕ
up_from n zero = []
up_from n (suc k) = (n + 1) ∷ up_from (n + 1) k

-- lexicographic order: the number at the first place where two lists differ tells, and an end comes before any number
abbrev pub before : List ℕ → List ℕ → Bool
before l [] = false
before [] (b ∷ m) = true
before (a ∷ l) (b ∷ m) = ltb a b || (eqb a b && before l m)

-- in strictly rising order of their keys: each comes before all that stand behind it
abbrev pub Rising : {A : Type 0} → (A → List ℕ) → List A → Type 0
Rising key [] = Unit
Rising key (x ∷ xs) = All (λ y. before (key x) (key y) ≡ true) xs × Rising key xs
