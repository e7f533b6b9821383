-- The walk that picks rows, one a turn. Assumes nothing.
use mathlib.Core.Path.{◌≡◌, refl, sym, ap, subst, ◌∙◌}
use mathlib.Core.Bool.{Bool, true, false, cond}
use mathlib.Core.List.{List, [], ◌∷◌}
use Prim.Native.Nat.{ℕ, suc, ◌+◌, ◌≤◌, ◌<◌}
use native.Mathlib.Nat.{zero-add, add-zero}
use native.Mathlib.Numerals.{add-one}
use native.Mathlib.Omega.{arith}
use lib.ListN.{length, get_or, take}
use lib.Seq.{sets}
use Rattle.std.proofs.lemmas.List.{take_all}
use Rattle.std.proofs.lemmas.List.Sums.{fold_more}
use Rattle.calculus.specs.declared.session.Row.{Row}
use Rattle.calculus.specs.declared.state.Part.{Part}
use Rattle.model.specs.Lists.{fold, those}
use Rattle.model.specs.Row.{held}
use Rattle.rows.specs.declared.picked.Rows.{Rows}
use Rattle.rows.specs.Picked.{with_row, with_picked, picked_of}

-- the rows l behind those of x
abbrev behind : Rows → List Row → Rows
behind x l = record { places = sets x.places x.held l; held = x.held + length l }

fold_picked : (p : Row → Bool) (l : List Row) (x : Rows) → fold (with_picked p) x l ≡ behind x (those p l)
fold_picked p [] x = rw add-zero
fold_picked p (r ∷ l) x = go (p r) (fold_picked p l)
  where
    more : List Row
    more = those p l

    go : (b : Bool) → ((y : Rows) → fold (with_picked p) y l ≡ behind y more) → fold (with_picked p) (cond b (with_row x r) x) l ≡ behind x (cond b (r ∷ more) more)
    go true h =
        let n : x.held + suc (length more) ≡ suc x.held + length more = omega arith in
        h (with_row x r) ∙ rw (n, add-one)
    go false h = h x

-- nothing was picked of t's rows
abbrev pub none : Part → Rows
none t = record { places = t.rows; held = 0 }

all_picked : (p : Row → Bool) (t : Part) → fold (with_picked p) (none t) (held t) ≡ picked_of p t
all_picked p t = rw zero-add at (fold_picked p (held t) (none t))

module _ (p : Row → Bool) (t : Part) where
  -- what was picked of the first i rows
  abbrev pub first_picked : ℕ → Rows
  first_picked i = fold (with_picked p) (none t) (take i (held t))

  next_picked : (i : ℕ) (z : Row) → i < length (held t) → first_picked (i + 1) ≡ with_picked p (first_picked i) (get_or (held t) i z)
  next_picked i z h = fold_more (with_picked p) (none t) (held t) i z h

  -- with the rows lent as l, the next one is behind those if p holds of it
  pub picked_more : {l : List Row} {i : ℕ} (z : Row) {x : Rows} → l ≡ held t → i < length l → true ≡ p (get_or l i z) → x ≡ first_picked i
      → with_row x (get_or l i z) ≡ first_picked (i + 1)
  picked_more {l} {i} z {x} same inside e h =
      subst (λ (m : List Row). i < length m → true ≡ p (get_or m i z) → with_row x (get_or m i z) ≡ first_picked (i + 1)) (sym same)
      (λ j k. sym (next_picked i z j ∙ rw (← h, ← k) refl)) inside e

  -- and else is left out
  pub left_out : {l : List Row} {i : ℕ} (z : Row) {x : Rows} → l ≡ held t → i < length l → false ≡ p (get_or l i z) → x ≡ first_picked i → x ≡ first_picked (i + 1)
  left_out {l} {i} z {x} same inside e h =
      subst (λ (m : List Row). i < length m → false ≡ p (get_or m i z) → x ≡ first_picked (i + 1)) (sym same)
      (λ j k. sym (next_picked i z j ∙ rw (← h, ← k) refl)) inside e

  -- past all of them
  pub picked_past : {l : List Row} {i : ℕ} {x : Rows} → l ≡ held t → length l ≤ i → x ≡ first_picked i → x ≡ picked_of p t
  picked_past {l} {i} {x} same past h =
      h ∙ ap (fold (with_picked p) (none t)) (take_all i (held t) (rw same at past)) ∙ all_picked p t
