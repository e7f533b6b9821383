-- The credentials of a set, rising: read again they give the set, and their list is short enough for a line. Assumes nothing.
use mathlib.Core.Path.{◌≡◌, refl, ap, ◌∙◌}
use mathlib.Core.Bool.{Bool, true, false}
use mathlib.Core.List.{List, [], ◌∷◌, ◌++◌}
use Prim.Native.Nat.{ℕ, suc, ◌+◌, ◌-◌, ◌*◌, ◌≤◌, ◌<◌}
use native.Mathlib.Omega.{arith}
use lib.Dec.{ltb}
use borrow.Author.Tests.{ltb-true, ltb-false}
use lib.ListN.{length, replicate, length-append}
use lib.Seq.{append_snoc, set-append_seam}
use Rattle.calculus.specs.Table.{entries_from, only_if}
use Rattle.calculus.proofs.Table.{perhaps}
use Rattle.calculus.proofs.Tests.{bounds_within}
use Rattle.forms.specs.Bytes.{decimal}
use Rattle.forms.specs.Text.{list_text}
use Rattle.forms.specs.Exact.{Digits}
use Rattle.forms.specs.Request.{rising, holding, credentials_from, no_credentials}
use Rattle.forms.proofs.Decimal.{width_most}
use Rattle.forms.proofs.Lists.{list_end, width_list}

-- ---- they are rising, and in range

members_rising : (s : List Bool) (n least : ℕ) → least ≤ n → n + length s ≤ 64 → rising least (credentials_from n s) ≡ true
unfolding entries_from
members_rising [] n least h g = refl
members_rising (b ∷ s) n least h g =
    perhaps (λ (x : List ℕ). rising least x ≡ true) b
    (λ e. rw (bounds_within least 63 n h (omega arith)) (members_rising s (n + 1) (n + 1) (omega arith) (omega arith)))
    (λ e. members_rising s (n + 1) least (omega arith) (omega arith))

pub credentials_rising : (s : List Bool) → length s ≡ 64 → rising 0 (credentials_from 0 s) ≡ true
credentials_rising s h = members_rising s 0 0 (omega arith) (omega arith)

-- ---- read again

-- one place more
next_place : {A : Type 0} (p : List A) (x : A) → length (p ++ (x ∷ [])) ≡ length p + 1
next_place p x = length-append p (x ∷ [])

holding_members : (s p : List Bool) → holding (p ++ replicate (length s) false) (credentials_from (length p) s) ≡ p ++ s
unfolding entries_from
holding_members [] p = refl
holding_members (b ∷ s) p = go b (holding_members s (p ++ (b ∷ [])))
  where
    go : (c : Bool) → holding (p ++ (c ∷ []) ++ replicate (length s) false) (credentials_from (length (p ++ (c ∷ []))) s) ≡ p ++ (c ∷ []) ++ s
        → holding (p ++ false ∷ replicate (length s) false) (only_if c (length p) ++ credentials_from (length p + 1) s) ≡ p ++ c ∷ s
    go true h =
        ap (λ (x : List Bool). holding x (credentials_from (length p + 1) s)) (set-append_seam p false (replicate (length s) false) true)
        ∙ simp (append_snoc, next_place) at h
    go false h = simp (append_snoc, next_place) at h

pub credentials_same : (s : List Bool) → length s ≡ 64 → holding no_credentials (credentials_from 0 s) ≡ s
credentials_same s h = rw h at (holding_members s [])

-- ---- how long their list is

-- each takes a space and two digits, but those below 10 only one digit
number_width : (n : ℕ) → n < 64 → length (decimal n) + (10 - n) ≤ 2 + (10 - (n + 1))
number_width n h = go (ltb n 10) refl
  where
    go : (b : Bool) → ltb n 10 ≡ b → length (decimal n) + (10 - n) ≤ 2 + (10 - (n + 1))
    go true e = omega (arith, width_most 0 n (ltb-true n 10 e), ltb-true n 10 e)
    go false e = omega (arith, width_most 1 n (omega arith), ltb-false n 10 e)

members_width : (s : List Bool) (n : ℕ) → n + length s ≡ 64 → length (list_text (credentials_from n s)) + (10 - n) ≤ 1 + 3 * length s
unfolding entries_from
members_width [] n h = omega (arith, list_end)
members_width (b ∷ s) n h =
    let more = members_width s (n + 1) (omega arith) in
    perhaps (λ (x : List ℕ). length (list_text x) + (10 - n) ≤ 1 + 3 * suc (length s)) b
    (λ e. omega (arith, more, width_list n (credentials_from (n + 1) s), number_width n (omega arith)))
    (λ e. omega (arith, more))

-- " 0 1 .. 63)"
pub credentials_width : (s : List Bool) → length s ≡ 64 → length (list_text (credentials_from 0 s)) ≤ 183
credentials_width s h = omega (arith, members_width s 0 (omega arith))

members_digits : (s : List Bool) (n : ℕ) → n + length s ≤ 64 → Digits 10 (credentials_from n s)
unfolding entries_from
members_digits [] n h = tt
members_digits (b ∷ s) n h =
    let more = members_digits s (n + 1) (omega arith) in
    perhaps (Digits 10) b (λ e. (omega (arith, width_most 1 n (omega arith)), more)) (λ e. more)

pub credentials_digits : (s : List Bool) → length s ≡ 64 → Digits 10 (credentials_from 0 s)
credentials_digits s h = members_digits s 0 (omega arith)
