-- Laws of decimal numbers. Assumes nothing.
use mathlib.Core.Path.{◌≡◌, refl}
use mathlib.Core.List.{[], ◌∷◌, ◌++◌}
use Prim.Native.Nat.{ℕ, zero, suc, ◌+◌, ◌*◌, ◌/◌, ◌%◌, ◌^◌, ◌≤◌, ◌<◌}
use native.Mathlib.Nat.{pow-suc}
use native.Mathlib.Omega.{arith}
use borrow.Author.Tests.{lt-ltb, le-ltb, ltb-true, ltb-false}
use lib.Dec.{ltb}
use lib.ListN.{length, length-append}
use Rattle.calculus.proofs.Tests.{Way, is, isnt, way}
use Rattle.forms.specs.Bytes.{digits_of, decimal}

digits_of_enough : (k j n : ℕ) → n ≤ k → n ≤ j → digits_of k n ≡ digits_of j n
unfolding digits_of
digits_of_enough zero zero n h g = refl
digits_of_enough zero (suc j) n h g = rw (lt-ltb n 10 (omega arith))
digits_of_enough (suc k) zero n h g = rw (lt-ltb n 10 (omega arith))
digits_of_enough (suc k) (suc j) n h g = go (way (ltb n 10)) (λ s. digits_of_enough k j (n / 10) (omega arith) (omega arith))
  where
    go : Way (ltb n 10) → (10 ≤ n → digits_of k (n / 10) ≡ digits_of j (n / 10)) → digits_of (suc k) n ≡ digits_of (suc j) n
    go (is e) f = rw e
    go (isnt e) f = rw (e, f (ltb-false n 10 e))

pub decimal_small : (n : ℕ) → n < 10 → decimal n ≡ (48 + n) ∷ []
unfolding decimal digits_of
decimal_small zero h = refl
decimal_small (suc n) h = rw (lt-ltb (suc n) 10 h)

pub decimal_large : (n : ℕ) → 10 ≤ n → decimal n ≡ decimal (n / 10) ++ ((48 + n % 10) ∷ [])
unfolding decimal digits_of
decimal_large zero h = absurd (omega arith)
decimal_large (suc n) h = rw (le-ltb (suc n) 10 h, digits_of_enough n (suc n / 10) (suc n / 10) (omega arith) (omega arith))

-- one more digit
pub decimal_more : (a d : ℕ) → 0 < a → d < 10 → decimal (a * 10 + d) ≡ decimal a ++ ((48 + d) ∷ [])
decimal_more a d h g =
    let q : (a * 10 + d) / 10 ≡ a = omega arith in
    let r : (a * 10 + d) % 10 ≡ d = omega arith in
    rw (decimal_large (a * 10 + d) (omega arith), q, r)

-- ---- how many digits

width_small : (n : ℕ) → n < 10 → length (decimal n) ≡ 1
width_small n h = rw (decimal_small n h)

pub width_large : (n : ℕ) → 10 ≤ n → length (decimal n) ≡ length (decimal (n / 10)) + 1
width_large n h = rw (decimal_large n h, length-append)

pub width_some : (n : ℕ) → 0 < length (decimal n)
width_some n = go (way (ltb n 10))
  where
    go : Way (ltb n 10) → 0 < length (decimal n)
    go (is e) = omega (arith, width_small n (ltb-true n 10 e))
    go (isnt e) = omega (arith, width_large n (ltb-false n 10 e))

pub width_most : (k n : ℕ) → n < 10 ^ suc k → length (decimal n) ≤ suc k
width_most zero n h = omega (arith, width_small n h)
width_most (suc k) n h = go (way (ltb n 10)) (width_most k (n / 10) (omega (arith, pow-suc 10 (suc k))))
  where
    go : Way (ltb n 10) → length (decimal (n / 10)) ≤ suc k → length (decimal n) ≤ suc (suc k)
    go (is e) ih = omega (arith, width_small n (ltb-true n 10 e))
    go (isnt e) ih = omega (arith, width_large n (ltb-false n 10 e))
