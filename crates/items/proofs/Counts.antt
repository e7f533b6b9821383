-- How many elements a test holds of, and where the first is, in std's words. Assumes nothing.
use mathlib.Core.Path.{◌≡◌, refl, sym}
use mathlib.Core.Bool.{Bool, true, false, cond, ◌||◌}
use mathlib.Core.List.{List, [], ◌∷◌}
use Prim.Native.Nat.{ℕ, ◌+◌, ◌<◌}
use native.Mathlib.Nat.{zero-add}
use native.Mathlib.Omega.{arith}
use lib.Dec.{ltb}
use lib.ListN.{length}
use borrow.Author.Tests.{lt-ltb}
use Rattle.std.specs.List.{count_by, list_any}
use Rattle.std.specs.Prelude.{Some, position}
use Rattle.std.proofs.lemmas.Option.{none-some}
use Rattle.std.proofs.lemmas.List.Quantifiers.{position-Some}
use Rattle.std.proofs.lemmas.List.Recursion.{is_count_by}
use Rattle.calculus.proofs.Tests.{either}
use Rattle.model.specs.Lists.{tally}

module _ {A : Type 0} (f : A → Bool) where
  pub count_tally : (l : List A) → count_by f l ≡ tally f l
  count_tally l = sym (is_count_by (λ m. tally f m) f refl (λ x m. either (λ (n : ℕ). n + tally f m ≡ cond (f x) (1 + tally f m) (tally f m)) (f x) (λ e. rw e) (λ e. rw e (omega arith))) l)

  pub place_below : (l : List A) (i : ℕ) → position f l ≡ Some i → i < length l
  place_below [] i e = absurd (none-some i e)
  place_below (x ∷ l) i e = (position-Some f (x ∷ l) i x e).0

  pub any_tally : (l : List A) → list_any f l ≡ ltb 0 (tally f l)
  any_tally [] = refl
  any_tally (x ∷ l) = go (f x) (any_tally l)
    where
      go : (b : Bool) → list_any f l ≡ ltb 0 (tally f l) → (b || list_any f l) ≡ ltb 0 (cond b 1 0 + tally f l)
      go true e = sym (lt-ltb 0 (1 + tally f l) (omega arith))
      go false e = rw zero-add e
