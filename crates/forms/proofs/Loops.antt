-- What the loops over words and digits keep. Assumes nothing.
use mathlib.Core.Path.{◌≡◌, refl, sym, ◌∙◌}
use mathlib.Core.Bool.{true, false, cond, and-true}
use mathlib.Core.List.{List, [], ◌∷◌}
use Prim.Native.Nat.{ℕ, ◌+◌, ◌-◌, ◌*◌, ◌^◌, ◌≤◌, ◌<◌}
use native.Mathlib.Numerals.{add-one}
use native.Mathlib.Nat.{pow-suc}
use native.Mathlib.Omega.{arith}
use borrow.Author.Tests.{lt-ltb, le-ltb, eq-eqb}
use lib.Dec.{eqb}
use lib.ListN.{length, get_or, drop, drop_of_length-le}
use lib.Seq.{drop-cons}
use Rattle.calculus.proofs.Tests.{within_bounds}
use Rattle.std.specs.Prelude.{Some, None}
use Rattle.forms.specs.Read.{starts, is_digit, scan, number}

-- ---- one byte at a place

pub byte_here : (s : List ℕ) (at b : ℕ) → at < length s → eqb b (get_or s at 0) ≡ starts (b ∷ []) (drop at s)
unfolding starts
byte_here s at b h = rw (drop-cons s at 0 h, and-true)

pub byte_past : (s : List ℕ) (at b : ℕ) → length s ≤ at → false ≡ starts (b ∷ []) (drop at s)
unfolding starts
byte_past s at b h = rw (drop_of_length-le s h)

-- ---- digits

-- the i digits before place i have the value v
pub record Scanned (l : List ℕ) (first v i : ℕ) : Type 0 where
  pub inside : i ≤ length l
  pub small : v < 10 ^ i
  pub same : scan 10 first 1 (drop 1 l) ≡ scan 10 v i (drop i l)

module _ {l : List ℕ} {first v i : ℕ} (m : Scanned l first v i) where
  pub scanned_more : i < length l → is_digit (get_or l i 0) ≡ true → i < 10 → Scanned l first (v * 10 + (get_or l i 0 - 48)) (i + 1)
  unfolding scan
  scanned_more h d g =
      let b = within_bounds 48 57 (get_or l i 0) d in
      record {
        inside = omega arith;
        small = rw (add-one, pow-suc) (omega arith);
        same = m.same ∙ rw (drop-cons l i 0 h, d, lt-ltb i 10 g) (rw add-one);
      }

  pub scanned_long : i < length l → is_digit (get_or l i 0) ≡ true → 10 ≤ i → None ≡ scan 10 first 1 (drop 1 l)
  unfolding scan
  scanned_long h d g = sym (m.same ∙ rw (drop-cons l i 0 h, d, le-ltb i 10 g))

  pub scanned_other : i < length l → is_digit (get_or l i 0) ≡ false → Some (v, i) ≡ scan 10 first 1 (drop 1 l)
  unfolding scan
  scanned_other h d = sym (m.same ∙ rw (drop-cons l i 0 h, d))

  pub scanned_all : length l ≤ i → Some (v, i) ≡ scan 10 first 1 (drop 1 l)
  unfolding scan
  scanned_all h = sym (m.same ∙ rw (drop_of_length-le l h))

-- ---- the first digit

pub number_empty : (most : ℕ) (l : List ℕ) → length l ≡ 0 → None ≡ number most l
unfolding number
number_empty most [] h = refl
number_empty most (c ∷ l) h = absurd (omega arith)

pub number_first : (most : ℕ) (l : List ℕ) → (length l ≡ 0 → ⊥)
    → cond (eqb (get_or l 0 0) 48) (Some (0, 1)) (cond (is_digit (get_or l 0 0)) (scan most (get_or l 0 0 - 48) 1 (drop 1 l)) None) ≡ number most l
unfolding number
number_first most [] h = absurd (h refl)
number_first most (c ∷ l) h = refl

pub number_zero : (most : ℕ) (l : List ℕ) → (length l ≡ 0 → ⊥) → get_or l 0 0 ≡ 48 → Some (0, 1) ≡ number most l
number_zero most l h e = rw (eq-eqb (get_or l 0 0) 48 e) at (number_first most l h)
