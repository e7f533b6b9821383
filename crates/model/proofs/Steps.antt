-- A step, by whether its item pends, and the pending item of a number. Assumes nothing.
use mathlib.Core.Path.{◌≡◌, refl, ap}
use mathlib.Core.Bool.{Bool, true, false}
use mathlib.Core.List.{List}
use Prim.Native.Nat.{ℕ, ◌≤◌}
use lib.ListN.{length}
use Rattle.std.specs.Prelude.{Option, Some, None, Ok, Err, option_map, option_and_then, position}
use Rattle.std.proofs.lemmas.Option.{same_Some}
use Rattle.calculus.specs.declared.answer.Refusal.{Refusal}
use Rattle.calculus.specs.declared.answer.Refusal.TheVariants.{NoItem}
use Rattle.calculus.specs.declared.network.Network.{Network}
use Rattle.calculus.specs.declared.packet.Slot.{Slot}
use Rattle.calculus.specs.declared.state.Part.{Part}
use Rattle.model.specs.Lists.{tally}
use Rattle.model.specs.Item.{is_wait, slot_at}
use Rattle.model.specs.Rules.{rule}
use Rattle.model.specs.State.{is_numbered, found_item}
use Rattle.model.specs.Requests.{Move, unused, spent, stepped, step_at, step_move}
use Rattle.model.proofs.Checks.{checked_either}
use Rattle.model.proofs.Lists.{position_once}
use Rattle.model.proofs.Weights.{slot_below}

-- ---- the pending item of a number

module _ (k : ℕ) (l : List (Option Slot)) (at : ℕ) (s : Slot) where
  pub numbered_at : found_item k l ≡ Some (at, s) → slot_at l at ≡ Some s
  unfolding found_item
  numbered_at e = go (position (is_numbered k) l) e
    where
      in_place : (i : ℕ) (o : Option Slot) → slot_at l i ≡ o → option_map {U = ℕ × Slot} (λ x. (i, x)) o ≡ Some (at, s) → slot_at l at ≡ Some s
      in_place i None h e = absurd (cc)
      in_place i (Some x) h e =
          let q = same_Some (i, x) (at, s) e in
          let place : i ≡ at = ap (λ (p : ℕ × Slot). p.0) q in
          let slot : x ≡ s = ap (λ (p : ℕ × Slot). p.1) q in
          cc

      go : (o : Option ℕ) → option_and_then (λ i. option_map {U = ℕ × Slot} (λ x. (i, x)) (slot_at l i)) o ≡ Some (at, s) → slot_at l at ≡ Some s
      go None e = absurd (cc)
      go (Some i) e = in_place i (slot_at l i) refl e

  -- the only item of its number is found
  pub numbered_once : slot_at l at ≡ Some s → is_numbered k (Some s) ≡ true → tally (is_numbered k) l ≤ 1 → found_item k l ≡ Some (at, s)
  unfolding found_item
  numbered_once e h m = rw (position_once (is_numbered k) None l at (slot_below l at s e) (rw e h) m, e)

-- ---- a step

-- no refusal's test holds of a step of the item of s
pub record Stepping (t : Part) (s : Slot) : Type 0 where
  pub used : unused t ≡ false
  pub waits : is_wait s.item ≡ false
  pub left : spent t ≡ false

-- what holds of each refusal, and of each step of an item in its place, holds of the move
pub step_either : (n : Network) (standing : ℕ → ℕ → Bool) (k : ℕ) (t : Part) (P : Option (ℕ × Slot) → Move → Type 0)
    → ((o : Option (ℕ × Slot)) (r : Refusal) → P o (Err r))
    → ((at : ℕ) (s : Slot) → slot_at t.items at ≡ Some s → Stepping t s → P (Some (at, s)) (Ok (stepped t at (rule n standing t s.item))))
    → P (found_item k t.items) (step_move n standing k t)
unfolding step_move step_at
step_either n standing k t P refused made = go (found_item k t.items) refl
  where
    go : (o : Option (ℕ × Slot)) → found_item k t.items ≡ o → P o (step_at n standing t o)
    go None e = refused None _
    go (Some (at, s)) e =
        checked_either (P (Some (at, s))) (refused (Some (at, s))) _
        (λ p. made at s (numbered_at k t.items at s e) (record { used = p.0; waits = p.1.0; left = p.1.1.0 }))
