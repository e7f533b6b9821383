-- Lists in strictly rising order of their keys. Assumes nothing.
use mathlib.Core.Path.{◌≡◌, refl}
use mathlib.Core.Bool.{Bool, true, or-true}
use mathlib.Core.List.{List, [], ◌∷◌, ◌++◌}
use Prim.Native.Nat.{ℕ, ◌+◌, ◌≤◌, ◌<◌}
use native.Mathlib.Omega.{arith}
use lib.Dec.{ltb, eqb}
use borrow.Author.Tests.{eq-eqb, ltb-true, ltb-false, eqb-true}
use Rattle.std.specs.Prelude.{Option, Some, None}
use Rattle.calculus.specs.Table.{entries_from, only_if, of_some}
use Rattle.calculus.proofs.Table.{perhaps}
use Rattle.calculus.proofs.Tests.{Way, is, isnt, way, never}
use Rattle.model.specs.Lists.{All, before, Rising}
use Rattle.model.proofs.Lists.{all_append}
use Rattle.model.proofs.Tables.{only_all, some_all, entries_all}

-- ---- two keys

-- the first numbers do not fall, and where they are the same the numbers behind them rise
pub before_cons : (a b : ℕ) (l m : List ℕ) → a ≤ b → (a ≡ b → before l m ≡ true) → before (a ∷ l) (b ∷ m) ≡ true
before_cons a b l m h next = go (way (ltb a b))
  where
    go : Way (ltb a b) → before (a ∷ l) (b ∷ m) ≡ true
    go (is e) = rw e
    go (isnt e) =
        let f : a ≡ b = omega (arith, ltb-false a b e) in
        rw (eq-eqb a b f, next f, or-true (ltb a b))

-- the first numbers rise, or they are the same and the numbers behind them rise
data Rises (a b : ℕ) (l m : List ℕ) : Type 0 where
  first : a < b → Rises a b l m
  next : a ≡ b → before l m ≡ true → Rises a b l m

rises : (a b : ℕ) (l m : List ℕ) → before (a ∷ l) (b ∷ m) ≡ true → Rises a b l m
rises a b l m e = go (way (ltb a b)) (way (eqb a b))
  where
    go : Way (ltb a b) → Way (eqb a b) → Rises a b l m
    go (is h) k = first (ltb-true a b h)
    go (isnt h) (is k) = next (eqb-true a b k) (rw (h, k) at e)
    go (isnt h) (isnt k) = never (rw (h, k) at e)

-- no two keys are each before the other
pub one_way : (l m : List ℕ) → before l m ≡ true → before m l ≡ true → ⊥
one_way l [] h k = never h
one_way [] (b ∷ m) h k = never k
one_way (a ∷ l) (b ∷ m) h k = go (one_way l m) (rises a b l m h) (rises b a m l k)
  where
    go : (before l m ≡ true → before m l ≡ true → ⊥) → Rises a b l m → Rises b a m l → ⊥
    go r (first i) (first j) = omega arith
    go r (first i) (next f j) = omega arith
    go r (next e i) (first j) = omega arith
    go r (next e i) (next f j) = r i j

pub data Compared (l m : List ℕ) : Type 0 where
  earlier : before l m ≡ true → Compared l m
  later : before m l ≡ true → Compared l m
  same : l ≡ m → Compared l m

pub compared : (l m : List ℕ) → Compared l m
compared [] [] = same refl
compared [] (b ∷ m) = earlier refl
compared (a ∷ l) [] = later refl
compared (a ∷ l) (b ∷ m) = go (way (ltb a b)) (way (ltb b a)) (compared l m)
  where
    go : Way (ltb a b) → Way (ltb b a) → Compared l m → Compared (a ∷ l) (b ∷ m)
    go (is h) k c = earlier (rw h)
    go (isnt h) (is k) c = later (rw k)
    go (isnt h) (isnt k) (earlier i) = earlier (before_cons a b l m (ltb-false b a k) (λ e. i))
    go (isnt h) (isnt k) (later i) = later (before_cons b a m l (ltb-false a b h) (λ e. i))
    go (isnt h) (isnt k) (same i) =
        let e : a ≡ b = omega (arith, ltb-false a b h, ltb-false b a k) in
        same (rw (e, i) refl)

-- ---- lists

module _ {A : Type 0} (key : A → List ℕ) where
  abbrev pub Before : A → A → Type 0
  Before x y = before (key x) (key y) ≡ true

  pub rising_append : (l m : List A) → Rising key l → Rising key m → All (λ x. All (Before x) m) l → Rising key (l ++ m)
  rising_append [] m h k up = k
  rising_append (x ∷ l) m h k up = (all_append (Before x) l m h.0 up.0, rising_append l m h.1 k up.1)

  -- a table's walk that makes at most one of each entry, whose keys rise with the entry's number
  pub rising_entries : {B : Type 0} (b : B → Bool) (f : ℕ → B → A) → ((i j : ℕ) (x y : B) → i < j → Before (f i x) (f j y))
      → (k : ℕ) (l : List B) → Rising key (entries_from (λ i x. only_if (b x) (f i x)) k l)
  unfolding entries_from
  rising_entries b f up k [] = tt
  rising_entries b f up k (x ∷ l) =
      let more = rising_entries b f up (k + 1) l in
      let behind = entries_all (Before (f k x)) (λ i y. only_if (b y) (f i y)) (k + 1) l
      (λ j y i w. only_all (Before (f k x)) (b y) (λ e. up k j x y (omega arith))) in
      perhaps (Rising key) (b x) (λ e. (behind, more)) (λ e. more)

  -- so of entries that may be missing
  pub rising_somes : {B : Type 0} (f : ℕ → B → A) → ((i j : ℕ) (x y : B) → i < j → Before (f i x) (f j y))
      → (k : ℕ) (l : List (Option B)) → Rising key (entries_from (λ i x. of_some (f i) x) k l)
  unfolding entries_from
  rising_somes f up k [] = tt
  rising_somes f up k (None ∷ l) = rising_somes f up (k + 1) l
  rising_somes f up k (Some x ∷ l) = (
    entries_all (Before (f k x)) (λ i y. of_some (f i) y) (k + 1) l
        (λ j y i w. some_all (Before (f k x)) (f j) y (λ z. up k j x z (omega arith))),
    rising_somes f up (k + 1) l,
  )
