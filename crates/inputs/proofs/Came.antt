-- What reads into a buffer, each behind what came before, took from their source; cited by `read_front`. Assumes nothing.
use Rattle.std.proofs.Common.{◌≡◌, ◌+◌, ◌<◌, ◌≤◌, ◌∙◌, ℕ, List, ◌++◌, Option, Result, Ok, Err, OnErr, arith, ap, sym, subst, length, take, drop_at, length-take-le}
use mathlib.Core.Path.{ap₂}
use lib.Seq.{take-add, take-append-le}
use borrow.Rule.Slice.PartMut.{put_mid, post_of, take_put}
use Rattle.std.specs.Io.KnownBytes.{Consumes, Keeps}
use Rattle.std.proofs.KnownBytes.{Consumes-trans, Consumes-kept}

take_put_mid : (a k n : ℕ) (xs ys : List ℕ) → a ≤ length xs → n ≤ length ys → take (a + n) (put_mid a k xs ys) ≡ take a xs ++ take n ys
take_put_mid a k n xs ys p q =
    let after = post_of a k xs in
    let behind = ap (take n) (drop_at (take a xs) (ys ++ after) a (length-take-le a xs p)) ∙ take-append-le n ys after q in
    take-add a n (put_mid a k xs ys) ∙ ap₂ (λ u v. u ++ v) (take_put a k xs ys p) behind

-- a came, and the next read gave n more
pub consumes_more : (u v w : Option (List ℕ)) (a k n : ℕ) (xs ys : List ℕ) → a ≤ length xs → n ≤ length ys → Consumes u v (take a xs) → Consumes v w (take n ys)
    → Consumes u w (take (a + n) (put_mid a k xs ys))
consumes_more u v w a k n xs ys p q before read = subst (Consumes u w) (sym (take_put_mid a k n xs ys p q)) (Consumes-trans u v w _ _ before read)

-- a came, fewer than were wanted, and the next read failed
pub lost_by_failing : {T E : Type 0} (r : Result T E) (u v w : Option (List ℕ)) (a n : ℕ) (xs : List ℕ) → a < n → n ≡ length xs → Consumes u v (take a xs) → Keeps v w
    → OnErr r ((bs : List ℕ) × (length bs < n) × Consumes u w bs)
lost_by_failing (Ok x) u v w a n xs p q before kept = tt
lost_by_failing (Err e) u v w a n xs p q before kept = (take a xs, omega (arith, p, q, length-take-le a xs (omega (arith, p, q))), Consumes-kept u v w _ before kept)
