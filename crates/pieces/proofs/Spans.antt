-- Parts of a buffer, as the code takes them and as the definitions say them. For the proofs of this crate. Assumes nothing.
use mathlib.Core.Path.{◌≡◌, refl}
use mathlib.Core.Bool.{Bool, true, false}
use mathlib.Core.List.{List, [], ◌∷◌, ◌++◌}
use Prim.Native.Nat.{ℕ, zero, suc, ◌+◌, ◌-◌, ◌≤◌, ◌<◌, min}
use native.Mathlib.Omega.{arith}
use borrow.Author.Tests.{ltb-true, ltb-false}
use lib.Dec.{ltb}
use lib.ListN.{length, take, drop, length-take, drop_of_length-le}
use lib.Seq.{take_all, take-nil, take-take, take-add, drop-append-le, slice, slice_empty, length-slice}

-- a ≤ b, or not
data Order (a b : ℕ) : Type 0 where
  most : a ≤ b → Order a b
  past : b < a → Order a b

order : (a b : ℕ) → Order a b
order a b = go (ltb b a) refl
  where
    go : (t : Bool) → ltb b a ≡ t → Order a b
    go true e = past (ltb-true b a e)
    go false e = most (ltb-false b a e)

-- no more than there is can be taken
take_min : (n : ℕ) (l : List ℕ) → take (min n (length l)) l ≡ take n l
take_min n l = go (order n (length l))
  where
    go : Order n (length l) → take (min n (length l)) l ≡ take n l
    go (most h) = let e : min n (length l) ≡ n = omega arith in rw e
    go (past h) = let e : min n (length l) ≡ length l = omega arith in rw (e, take_all (length l) l (omega arith), take_all n l (omega arith))

drop_min : (n : ℕ) (l : List ℕ) → drop (min n (length l)) l ≡ drop n l
drop_min n l = go (order n (length l))
  where
    go : Order n (length l) → drop (min n (length l)) l ≡ drop n l
    go (most h) = let e : min n (length l) ≡ n = omega arith in rw e
    go (past h) =
        let e : min n (length l) ≡ length l = omega arith in
        rw (e, drop_of_length-le l {i = length l} (omega arith), drop_of_length-le l {i = n} (omega arith))

pub take_least : (n m : ℕ) (l : List ℕ) → take n (take m l) ≡ take (min m n) l
take_least n m l = go (order n m)
  where
    go : Order n m → take n (take m l) ≡ take (min m n) l
    go (most h) = let e : min m n ≡ n = omega arith in rw (e, take-take n m l h)
    go (past h) = let e : min m n ≡ m = omega arith in rw (e, take_all n (take m l) (simp length-take (omega arith)))

-- the part that the code takes from `from` up to `to` is the definitions' part
take_drop : (l : List ℕ) (n m : ℕ) → take m (drop n l) ≡ drop n (take (n + m) l)
take_drop l zero m = let e : 0 + m ≡ m = omega arith in rw e
take_drop [] (suc n) m = rw (take-nil {A = ℕ} (suc n + m), take-nil {A = ℕ} m)
take_drop (c ∷ l) (suc n) m = let e : suc n + m ≡ suc (n + m) = omega arith in rw e (take_drop l n m)

pub part : (from to : ℕ) (l : List ℕ) → take (to - from) (drop from l) ≡ slice from to l
part from to l = go (order from to)
  where
    go : Order from to → take (to - from) (drop from l) ≡ slice from to l
    go (most h) = let e : from + (to - from) ≡ to = omega arith in rw (take_drop l from (to - from), e)
    go (past h) =
        let e : to - from ≡ 0 = omega arith in
        rw (e, drop_of_length-le (take to l) {i = from} (simp length-take (omega arith)))

-- a part that ends at `to`, found again by its length
pub part_again : (u l : List ℕ) (from to : ℕ) → to ≤ length l → u ≡ slice from to l → slice (to - length u) to l ≡ u
part_again u l from to k e = rw (e, length-slice from to l k) (go (order from to))
  where
    go : Order from to → slice (to - (to - from)) to l ≡ slice from to l
    go (most h) = let e : to - (to - from) ≡ from = omega arith in rw e
    go (past h) =
        let e : to - (to - from) ≡ to = omega arith in
        rw (e, slice_empty to l, drop_of_length-le (take to l) {i = from} (simp length-take (omega arith)))

-- a part with its places put into the buffer
pub part_held : (from to : ℕ) (l : List ℕ) → slice (min from (min to (length l))) (min to (length l)) l ≡ slice from to l
part_held from to l = rw (take_min to l, ← length-take to l, drop_min from (take to l))

-- and with `got` bytes more behind it
pub part_more : (from to got : ℕ) (l : List ℕ)
    → slice (min from (min to (length l))) (min (to + got) (length l)) l ≡ slice from to l ++ take got (drop to l)
part_more from to got l =
    let f = min from (min to (length l)) in
    rw (take_min (to + got) l, take-add to got l, drop-append-le f (take to l) (take got (drop to l)) (simp length-take (omega arith)), ← length-take to l, drop_min from (take to l))
