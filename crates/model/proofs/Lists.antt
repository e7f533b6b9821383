-- What holds of every element of a list, where one is found, how many are, those that a test holds of, numbers that rise, and the front
-- of a list after a run of stores. Assumes nothing.
use mathlib.Core.Path.{◌≡◌, refl, ap, ◌∙◌}
use mathlib.Core.Bool.{Bool, true, false, cond, not}
use mathlib.Core.List.{List, [], ◌∷◌, ◌++◌, reverse, reverse-cons}
use Prim.Native.Nat.{ℕ, zero, suc, ◌+◌, ◌≤◌, ◌<◌}
use native.Mathlib.Nat.{zero-add, add-zero}
use native.Mathlib.Omega.{arith}
use lib.ListN.{length, get_or, set, take, drop, replicate, length-append, length-take}
use borrow.Author.Tests.{lt-ltb}
use Rattle.std.specs.Prelude.{Some, position}
use Rattle.std.specs.List.{position_or_len}
use Rattle.calculus.proofs.Tests.{either}
use Rattle.model.specs.Lists.{tally, those, All, up_from}
use Rattle.model.proofs.Checks.{one}
use lib.Seq.{sets, sets-eq, take_at, length-take-le}

module _ {A : Type 0} (P : A → Type 0) where
  pub all_set : (l : List A) (i : ℕ) (x : A) → All P l → P x → All P (set l i x)
  all_set [] i x h k = tt
  all_set (y ∷ l) zero x h k = (k, h.1)
  all_set (y ∷ l) (suc i) x h k = (h.0, all_set l i x h.1 k)

  pub all_get : (l : List A) (i : ℕ) (d : A) → All P l → P d → P (get_or l i d)
  all_get [] i d h k = k
  all_get (y ∷ l) zero d h k = h.0
  all_get (y ∷ l) (suc i) d h k = all_get l i d h.1 k

  -- what holds of the element at i and of x holds of that element once x is stored, wherever that is
  pub get_set : (l : List A) (i j : ℕ) (x d : A) → P (get_or l i d) → P x → P (get_or (set l j x) i d)
  get_set [] i j x d h k = h
  get_set (y ∷ l) zero zero x d h k = k
  get_set (y ∷ l) zero (suc j) x d h k = h
  get_set (y ∷ l) (suc i) zero x d h k = h
  get_set (y ∷ l) (suc i) (suc j) x d h k = get_set l i j x d h k

  -- of each place
  pub all_of_get_d : (l : List A) (d : A) → ((i : ℕ) → i < length l → P (get_or l i d)) → All P l
  all_of_get_d [] d h = tt
  all_of_get_d (y ∷ l) d h = (h 0 (omega arith), all_of_get_d l d (λ i w. h (suc i) (omega arith)))

  pub all_at : (l : List A) (x : A) (m : List A) → All P (l ++ x ∷ m) → P x
  all_at [] x m h = h.0
  all_at (y ∷ l) x m h = all_at l x m h.1

  pub all_append : (l m : List A) → All P l → All P m → All P (l ++ m)
  all_append [] m h k = k
  all_append (y ∷ l) m h k = (h.0, all_append l m h.1 k)

  pub all_reverse : (l : List A) → All P l → All P (reverse l)
  all_reverse [] h = tt
  all_reverse (y ∷ l) h = rw (reverse-cons y l) (all_append (reverse l) (y ∷ []) (all_reverse l h.1) (h.0, tt))

  pub all_take : (n : ℕ) (l : List A) → All P l → All P (take n l)
  all_take zero l h = tt
  all_take (suc n) [] h = tt
  all_take (suc n) (y ∷ l) h = (h.0, all_take n l h.1)

  pub all_replicate : (n : ℕ) (x : A) → P x → All P (replicate n x)
  all_replicate zero x k = tt
  all_replicate (suc n) x k = (k, all_replicate n x k)

pub replicate_at : {A : Type 0} (n : ℕ) (x : A) (i : ℕ) → get_or (replicate n x) i x ≡ x
replicate_at {A} n x i = all_get (λ (y : A). y ≡ x) (replicate n x) i x (all_replicate (λ (y : A). y ≡ x) n x refl) refl

pub all_map : {A : Type 0} (P Q : A → Type 0) → ((x : A) → P x → Q x) → (l : List A) → All P l → All Q l
all_map P Q f [] h = tt
all_map P Q f (x ∷ l) h = (f x h.0, all_map P Q f l h.1)

module _ {A : Type 0} (f : A → Bool) where
  pub none_tallied : (l : List A) → tally f l ≡ 0 → All (λ x. f x ≡ false) l
  none_tallied [] h = tt
  none_tallied (x ∷ l) h = go (f x) h (none_tallied l)
    where
      go : (b : Bool) → one b + tally f l ≡ 0 → (tally f l ≡ 0 → All (λ x. f x ≡ false) l) → (b ≡ false) × All (λ x. f x ≡ false) l
      go true k g = absurd (omega arith)
      go false k g = (refl, g (omega arith))

  pub tally_none : (l : List A) → All (λ x. f x ≡ false) l → tally f l ≡ 0
  tally_none [] h = refl
  tally_none (x ∷ l) h = rw h.0 (omega (arith, tally_none l h.1))

  pub tally_all : (l : List A) → All (λ x. f x ≡ true) l → tally f l ≡ length l
  tally_all [] h = refl
  tally_all (x ∷ l) h = rw h.0 (omega (arith, tally_all l h.1))

  pub tally_append : (l m : List A) → tally f (l ++ m) ≡ tally f l + tally f m
  tally_append [] m = omega arith
  tally_append (x ∷ l) m = omega (arith, tally_append l m)

  pub tally_take : (n : ℕ) (l : List A) → tally f (take n l) ≤ tally f l
  tally_take zero l = omega arith
  tally_take (suc n) [] = omega arith
  tally_take (suc n) (x ∷ l) = omega (arith, tally_take n l)

pub tally_each : {A : Type 0} (l : List A) → tally (λ x. true) l ≡ length l
tally_each [] = refl
tally_each (x ∷ l) = omega (arith, tally_each l)

-- ---- those that a test holds of

pub all_those : {A : Type 0} (P : A → Type 0) (f : A → Bool) (l : List A) → All P l → All P (those f l)
all_those P f [] h = tt
all_those P f (x ∷ l) h =
    let k = all_those P f l h.1 in
    either (All P) (f x) (λ e. (h.0, k)) (λ e. k)

module _ {A : Type 0} (f : A → Bool) where
  those_length : (l : List A) → length (those f l) ≤ length l
  those_length [] = omega arith
  those_length (x ∷ l) =
      let k = those_length l in
      either (λ (m : List A). length m ≤ suc (length l)) (f x) (λ e. omega arith) (λ e. omega arith)

  pub those_append : (l m : List A) → those f (l ++ m) ≡ those f l ++ those f m
  those_append [] m = refl
  those_append (x ∷ l) m = go (f x) (those_append l m)
    where
      go : (b : Bool) → those f (l ++ m) ≡ those f l ++ those f m
          → cond b (x ∷ those f (l ++ m)) (those f (l ++ m)) ≡ cond b (x ∷ those f l) (those f l) ++ those f m
      go true e = ap (λ (k : List A). x ∷ k) e
      go false e = e

  pub those_all : (l : List A) → All (λ x. f x ≡ true) l → those f l ≡ l
  those_all [] h = refl
  those_all (x ∷ l) h = rw h.0 (ap (λ (k : List A). x ∷ k) (those_all l h.1))

  pub those_none : (l : List A) → All (λ x. f x ≡ false) l → those f l ≡ []
  those_none [] h = refl
  those_none (x ∷ l) h = rw h.0 (those_none l h.1)

  -- those that it holds of, and the others, are all
  pub tally_split : (g : A → Bool) (l : List A) → tally g (those f l) + tally g (those (λ x. not (f x)) l) ≡ tally g l
  tally_split g [] = refl
  tally_split g (x ∷ l) = go (f x) (tally_split g l)
    where
      others : List A
      others = those (λ x. not (f x)) l

      go : (b : Bool) → tally g (those f l) + tally g others ≡ tally g l
          → tally g (cond b (x ∷ those f l) (those f l)) + tally g (cond (not b) (x ∷ others) others) ≡ tally g (x ∷ l)
      go true e = omega arith
      go false e = omega arith

module _ {A : Type 0} (f : A → Bool) (d : A) where
  pub tally_at : (l : List A) (at : ℕ) → at < length l → f (get_or l at d) ≡ true → 1 ≤ tally f l
  tally_at [] at h e = absurd (omega arith)
  tally_at (x ∷ l) zero h e = rw e (omega arith)
  tally_at (x ∷ l) (suc at) h e = omega (arith, tally_at l at (omega arith) e)

  -- the only one is the first
  first_once : (l : List A) (at : ℕ) → at < length l → f (get_or l at d) ≡ true → tally f l ≤ 1 → position_or_len f l ≡ at
  first_once [] at h e k = absurd (omega arith)
  first_once (x ∷ l) zero h e k = rw e
  first_once (x ∷ l) (suc at) h e k = go (f x) k (first_once l at (omega arith) e)
    where
      go : (b : Bool) → one b + tally f l ≤ 1 → (tally f l ≤ 1 → position_or_len f l ≡ at) → cond (not b) (1 + position_or_len f l) 0 ≡ suc at
      go true m g = absurd (omega (arith, tally_at l at (omega arith) e))
      go false m g = omega (arith, g (omega arith))

  pub position_once : (l : List A) (at : ℕ) → at < length l → f (get_or l at d) ≡ true → tally f l ≤ 1 → position f l ≡ Some at
  position_once l at h e k = rw (first_once l at h e k, lt-ltb at (length l) h)

-- where there is one, the first is found
module _ {A : Type 0} (f : A → Bool) where
  pub first_below : (l : List A) → 1 ≤ tally f l → position_or_len f l < length l
  first_below [] h = absurd (omega arith)
  first_below (x ∷ l) h = go (f x) h (first_below l)
    where
      go : (b : Bool) → 1 ≤ one b + tally f l → (1 ≤ tally f l → position_or_len f l < length l)
          → cond (not b) (1 + position_or_len f l) 0 < suc (length l)
      go true k g = omega arith
      go false k g = omega (arith, g (omega arith))

  pub found : (l : List A) → 1 ≤ tally f l → position f l ≡ Some (position_or_len f l)
  found l h = rw (lt-ltb (position_or_len f l) (length l) (first_below l h))

-- ---- numbers that rise

pub up_append : (n j k : ℕ) → up_from n (j + k) ≡ up_from n j ++ up_from (n + j) k
unfolding up_from
up_append n zero k = rw (zero-add, add-zero)
up_append n (suc j) k =
    let e : suc j + k ≡ suc (j + k) = omega arith in
    let f : n + suc j ≡ n + 1 + j = omega arith in
    rw (e, f) (ap (λ (l : List ℕ). (n + 1) ∷ l) (up_append (n + 1) j k))

pub up_length : (n k : ℕ) → length (up_from n k) ≡ k
unfolding up_from
up_length n zero = refl
up_length n (suc k) = omega (arith, up_length (n + 1) k)

-- ---- stores

-- the front, and then what was stored after it
pub take_sets : {A : Type 0} (l vs : List A) (n : ℕ) → n + length vs ≤ length l → take (n + length vs) (sets l n vs) ≡ take n l ++ vs
take_sets {A} l vs n h =
    ap (λ (m : List A). take (n + length vs) m) (sets-eq vs l n h)
    ∙ take_at (take n l ++ vs) (drop (n + length vs) l) (n + length vs)
    (length-append (take n l) vs ∙ ap (λ (k : ℕ). k + length vs) (length-take-le n l (omega arith)))

-- those of the first n, stored from the first place on, are the front
pub take_those : {A : Type 0} (f : A → Bool) (n : ℕ) (l : List A)
    → let m = those f (take n l) in
    take (length m) (sets l 0 m) ≡ m
take_those f n l =
    let m = those f (take n l) in
    rw zero-add at (take_sets l m 0 (omega (arith, those_length f (take n l), length-take n l)))
