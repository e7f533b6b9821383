-- What holds of what a table's walk gives. Assumes nothing.
use mathlib.Core.Path.{◌≡◌, refl}
use mathlib.Core.Bool.{Bool, true, false}
use mathlib.Core.List.{List, [], ◌∷◌, map}
use Prim.Native.Nat.{ℕ, zero, suc, ◌+◌, ◌*◌, ◌≤◌, ◌<◌}
use native.Mathlib.Nat.{add-zero, mul-suc}
use native.Mathlib.Omega.{arith}
use lib.ListN.{length, get_or, length-append}
use Rattle.std.specs.Prelude.{Option, Some, None}
use Rattle.calculus.specs.Table.{entries_from, only_if, of_some}
use Rattle.forms.specs.Bytes.{joined}
use Rattle.forms.proofs.Joined.{lines_append}
use Rattle.model.specs.Lists.{All}
use Rattle.model.proofs.Lists.{all_append}

pub only_all : {A : Type 0} (P : A → Type 0) (b : Bool) {x : A} → (b ≡ true → P x) → All P (only_if b x)
only_all P true h = (h refl, tt)
only_all P false h = tt

pub some_all : {A B : Type 0} (P : B → Type 0) (f : A → B) (x : Option A) → ((y : A) → P (f y)) → All P (of_some f x)
some_all P f None h = tt
some_all P f (Some y) h = (h y, tt)

-- of all that the entries give
pub entries_all : {A B : Type 0} (P : B → Type 0) (f : ℕ → A → List B) (k : ℕ) (l : List A)
    → ((j : ℕ) (x : A) → k ≤ j → j < k + length l → All P (f j x)) → All P (entries_from f k l)
unfolding entries_from
entries_all P f k [] each = tt
entries_all P f k (x ∷ l) each =
    all_append P (f k x) (entries_from f (k + 1) l) (each k x (omega arith) (omega arith))
    (entries_all P f (k + 1) l (λ j y i e. each j y (omega arith) (omega arith)))

-- the sum of most k, most (k + 1), .. over n places
unfoldable pub total : (ℕ → ℕ) → ℕ → ℕ → ℕ
total most k zero = 0
total most k (suc n) = most k + total most (k + 1) n

pub total_constant : (most k n : ℕ) → total (λ j. most) k n ≡ most * n
unfolding total
total_constant most k zero = omega arith
total_constant most k (suc n) = omega (arith, total_constant most (k + 1) n, mul-suc most n)

-- how long their lines are, where those of the entry at place j have at most `most (k + j)` bytes
pub entries_width : {A B : Type 0} (line : B → List ℕ) (most : ℕ → ℕ) (f : ℕ → A → List B) (k : ℕ) (l : List A) (d : A)
    → ((j : ℕ) → j < length l → length (joined (map line (f (k + j) (get_or l j d)))) ≤ most (k + j))
    → length (joined (map line (entries_from f k l))) ≤ total most k (length l)
unfolding entries_from total
entries_width line most f k [] d each = omega arith
entries_width line most f k (x ∷ l) d each =
    let first = rw (add-zero k) at (each 0 (omega arith)) in
    let more = entries_width line most f (k + 1) l d
    (λ j h. let e : k + suc j ≡ k + 1 + j = omega arith in rw e at (each (suc j) (omega arith))) in
    rw (lines_append line (f k x) (entries_from f (k + 1) l), length-append (joined (map line (f k x))) (joined (map line (entries_from f (k + 1) l))))
    (omega (arith, more, first))

-- a line alone
pub one_width : {A : Type 0} (line : A → List ℕ) (most : ℕ) (x : A) → length (line x) ≤ most → length (joined (map line (x ∷ []))) ≤ most
one_width line most x h = omega (arith, h, length-append (line x) [])

pub only_width : {A : Type 0} (line : A → List ℕ) (most : ℕ) (b : Bool) (x : A) → (b ≡ true → length (line x) ≤ most)
    → length (joined (map line (only_if b x))) ≤ most
only_width line most true x h = one_width line most x (h refl)
only_width line most false x h = omega arith
