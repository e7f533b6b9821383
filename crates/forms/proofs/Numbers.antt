-- The reader of a number reads exactly a number's digits. Assumes nothing.
use mathlib.Core.Path.{◌≡◌, refl, ap, ◌∙◌}
use mathlib.Core.List.{List, [], ◌∷◌, ◌++◌, append_assoc}
use mathlib.Core.Bool.{true, false}
use Prim.Native.Nat.{ℕ, zero, suc, ◌+◌, ◌-◌, ◌*◌, ◌/◌, ◌%◌, ◌≤◌, ◌<◌}
use native.Mathlib.Omega.{arith}
use borrow.Author.Tests.{le-leb, lt-ltb, ltb-true, ltb-false, leb-true, eqb-true, eqb-false, ne_eqb}
use lib.Dec.{ltb, leb, eqb}
use lib.ListN.{length, get_or, drop, length-append}
use lib.Seq.{drop_at}
use Rattle.calculus.proofs.Tests.{Way, is, isnt, way, both}
use Rattle.std.specs.Prelude.{Option, Some}
use Rattle.forms.specs.Bytes.{decimal, digits_of}
use Rattle.forms.specs.Read.{is_digit, scan, number}
use Rattle.forms.proofs.Decimal.{decimal_small, decimal_large, decimal_more, width_large}
use Rattle.forms.proofs.Ways.{cond_way, missing}
use Rattle.forms.proofs.Words.{front_inside}

digit_bounds : (c : ℕ) → is_digit c ≡ true → (48 ≤ c) × (c ≤ 57)
digit_bounds c e =
    let h = both (leb 48 c) (leb c 57) e in
    (leb-true 48 c h.0, leb-true c 57 h.1)

digit_is : (d : ℕ) → d < 10 → is_digit (48 + d) ≡ true
digit_is d h = rw (le-leb 48 (48 + d) (omega arith), le-leb (48 + d) 57 (omega arith))

digit_alone : (c : ℕ) → is_digit c ≡ true → decimal (c - 48) ≡ c ∷ []
digit_alone c e =
    let h = digit_bounds c e in
    let d : 48 + (c - 48) ≡ c = omega arith in
    rw d at (decimal_small (c - 48) (omega arith))

-- a digit behind those of v, which is not 0
digit_more : (v c : ℕ) → 0 < v → is_digit c ≡ true → decimal (v * 10 + (c - 48)) ≡ decimal v ++ (c ∷ [])
digit_more v c p e =
    let h = digit_bounds c e in
    let d : 48 + (c - 48) ≡ c = omega arith in
    rw d at (decimal_more v (c - 48) p (omega arith))

-- l is the j digits of n, and r behind them. One digit is read whatever `most` is.
pub record Numeral (most : ℕ) (l r : List ℕ) (n j : ℕ) : Type 0 where
  pub same : l ≡ decimal n ++ r
  pub width : length (decimal n) ≡ j
  pub digits : 0 < most → j ≤ most

module _ (most : ℕ) (l : List ℕ) where
  numeral_more : (r : List ℕ) (v k c : ℕ) → 0 < v → is_digit c ≡ true → k < most → Numeral most l (c ∷ r) v k
      → Numeral most l r (v * 10 + (c - 48)) (k + 1)
  numeral_more r v k c p e h x = record {
    same = x.same ∙ rw (digit_more v c p e, append_assoc);
    width = rw (digit_more v c p e, length-append) (omega (arith, x.width));
    digits = λ q. omega arith;
  }

  numeral_found : (r : List ℕ) (v k n j : ℕ) → Numeral most l r v k → ◌≡◌ {A = Option (ℕ × ℕ)} (Some (v, k)) (Some (n, j)) → Numeral most l (drop j l) n j
  numeral_found r v k n j x e =
      let p : ◌≡◌ {A = ℕ × ℕ} (v, k) (n, j) = cc in
      let ev : v ≡ n = ap (λ (x : ℕ × ℕ). x.0) p in
      let ek : k ≡ j = ap (λ (x : ℕ × ℕ). x.1) p in
      let d : drop k l ≡ r = rw x.same (drop_at (decimal v) r k x.width) in
      rw (← ev, ← ek, d) x

  -- the number goes on behind the k digits of v, which is not 0
  scan_sound : (r : List ℕ) (v k n j : ℕ) → 0 < v → Numeral most l r v k → scan most v k r ≡ Some (n, j) → Numeral most l (drop j l) n j
  unfolding scan
  scan_sound [] v k n j p x e = numeral_found [] v k n j x e
  scan_sound (c ∷ r) v k n j p x e =
      cond_way (is_digit c) _ _
      (λ f. cond_way (ltb k most) _ _
      (λ g. scan_sound r (v * 10 + (c - 48)) (k + 1) n j (omega arith) (numeral_more r v k c p f (ltb-true k most g) x))
      (λ g. missing))
      (λ f. numeral_found (c ∷ r) v k n j x)
      e

numeral_first : (most c : ℕ) (l : List ℕ) → is_digit c ≡ true → Numeral most (c ∷ l) l (c - 48) 1
numeral_first most c l e = record { same = rw (digit_alone c e); width = rw (digit_alone c e); digits = λ h. h }

pub number_sound : (most : ℕ) (l : List ℕ) (n j : ℕ) → number most l ≡ Some (n, j) → Numeral most l (drop j l) n j
unfolding number
number_sound most [] n j = missing
number_sound most (c ∷ l) n j =
    cond_way (eqb c 48) _ _ (λ f. rw (eqb-true c 48 f) (numeral_found most (48 ∷ l) l 0 1 n j (numeral_first most 48 l refl)))
    (λ f. cond_way (is_digit c) _ _
    (λ g. scan_sound most (c ∷ l) l (c - 48) 1 n j (omega (arith, eqb-false c 48 f, digit_bounds c g)) (numeral_first most c l g))
    (λ g. missing))

pub number_inside : (most : ℕ) (l : List ℕ) (n j : ℕ) → number most l ≡ Some (n, j) → j ≤ length l
number_inside most l n j e =
    let x = number_sound most l n j e in
    omega (arith, front_inside (decimal n) l (drop j l) x.same)

-- ---- what is written is read

module _ (most : ℕ) where
  scan_ended : (v k : ℕ) (r : List ℕ) → is_digit (get_or r 0 0) ≡ false → scan most v k r ≡ Some (v, k)
  unfolding scan
  scan_ended v k [] e = refl
  scan_ended v k (c ∷ r) e = rw e

  -- the digits of n, which is not 0, are read one by one; `top` bounds n
  number_scan : (top n : ℕ) (r : List ℕ) → n ≤ top → 0 < n → length (decimal n) ≤ most
      → number most (decimal n ++ r) ≡ scan most n (length (decimal n)) r
  unfolding number scan
  number_scan zero n r h p d = absurd (omega arith)
  number_scan (suc top) n r h p d = go (way (ltb n 10)) (λ g. number_scan top (n / 10) ((48 + n % 10) ∷ r) (omega arith) (omega arith))
    where
      go : Way (ltb n 10)
          → (10 ≤ n → length (decimal (n / 10)) ≤ most
          → number most (decimal (n / 10) ++ ((48 + n % 10) ∷ r)) ≡ scan most (n / 10) (length (decimal (n / 10))) ((48 + n % 10) ∷ r))
          → number most (decimal n ++ r) ≡ scan most n (length (decimal n)) r
      go (is e) ih =
          let s : n < 10 = ltb-true n 10 e in
          let v : 48 + n - 48 ≡ n = omega arith in
          rw (decimal_small n s, ne_eqb (48 + n) 48 (omega arith), digit_is n s, v)
      go (isnt e) ih =
          let s : 10 ≤ n = ltb-false n 10 e in
          let v : n / 10 * 10 + (48 + n % 10 - 48) ≡ n = omega arith in
          let w = width_large n s in
          let k : ltb (length (decimal (n / 10))) most ≡ true = lt-ltb _ most (omega arith) in
          rw (w, decimal_large n s, append_assoc, ih s (omega arith), digit_is (n % 10) (omega arith), k, v)

pub number_complete : (most n : ℕ) (r : List ℕ) → length (decimal n) ≤ most → is_digit (get_or r 0 0) ≡ false
    → number most (decimal n ++ r) ≡ Some (n, length (decimal n))
unfolding number decimal digits_of
number_complete most zero r d e = refl
number_complete most (suc n) r d e =
    number_scan most (suc n) (suc n) r (omega arith) (omega arith) d ∙ scan_ended most (suc n) (length (decimal (suc n))) r e
