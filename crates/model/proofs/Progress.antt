-- An item that is neither a wait nor Data can be stepped, unless the numbers are spent, and its step is counted. Assumes nothing.
use mathlib.Core.Path.{◌≡◌, refl, sym, ap, ◌∙◌}
use mathlib.Core.Bool.{Bool, true, false, cond, not}
use mathlib.Core.Option.{none, some}
use Prim.Native.Nat.{ℕ, ◌+◌, ◌≤◌, ◌<◌}
use native.Mathlib.Omega.{arith}
use borrow.Author.Tests.{le-ltb, eq-eqb, not-true}
use Rattle.std.specs.Prelude.{Option, Some, None}
use Rattle.calculus.proofs.Tests.{both, never, not_so, bounds_within, within_bounds}
use Rattle.calculus.specs.Number.{within, is_session}
use Rattle.calculus.specs.declared.network.Network.{Network}
use Rattle.calculus.specs.declared.packet.Item.{Item}
use Rattle.calculus.specs.declared.packet.Slot.{Slot}
use Rattle.calculus.specs.declared.state.Part.{Part}
use Rattle.calculus.specs.declared.state.State.{State}
use Rattle.forms.specs.Text.{step, text}
use Rattle.forms.specs.Read.{read}
use Rattle.forms.proofs.ReadAgain.{step_read}
use Rattle.model.specs.Lists.{tally}
use Rattle.model.specs.Row.{are_nodes}
use Rattle.model.specs.Rules.{rule}
use Rattle.model.specs.Item.{is_wait, slot_at}
use Rattle.model.specs.State.{load, is_numbered, found_item}
use Rattle.model.specs.Requests.{Move, unused, spent, stepped, step_at, step_move}
use Rattle.model.specs.Calls.{answered, roomy_call, form_names}
use Rattle.model.specs.SetUp.{is_set_up_item}
use Rattle.model.specs.Termination.{is_counted, call_count, is_active, form_opens}
use Rattle.model.proofs.Checks.{one, checked_passed}
use Rattle.model.proofs.Lists.{tally_at}
use Rattle.model.proofs.Weights.{slot_below}
use Rattle.model.proofs.Steps.{numbered_once}
use Rattle.model.proofs.Sane.{Sane, all_at, all_unused}
use Rattle.model.proofs.Tracked.{Inactive}
use Rattle.model.proofs.Local.{Seen, seen_move, local, call_own}
use Rattle.model.proofs.Replies.{numbered}
use Rattle.model.proofs.Reached.{Sound}

module _ (t : Part) (h : Sane t) (at : ℕ) (s : Slot) (b : slot_at t.items at ≡ Some s) (e : is_active s.item ≡ true) where
  abbrev number : ℕ
  number = s.number.0

  abbrev item : Item
  item = s.item

  set_up_lem : is_set_up_item item ≡ true
  set_up_lem = (both (is_set_up_item item) (not (is_wait item)) e).0

  no_wait : is_wait item ≡ false
  no_wait = not-true (is_wait item) (both (is_set_up_item item) (not (is_wait item)) e).1

  is_numbered_lem : is_numbered number (Some s) ≡ true
  is_numbered_lem = eq-eqb number number refl

  within_last : within 1 t.session.last.0 number ≡ true
  within_last = go (within 1 t.session.last.0 number) (h.distinct.once number)
    where
      go : (w : Bool) → tally (is_numbered number) t.items ≤ one w → w ≡ true
      go true k = refl
      go false k = absurd (omega (arith, tally_at (is_numbered number) None t.items at (slot_below t.items at s b) (rw b is_numbered_lem)))

  number_bounds : (1 ≤ number) × (number ≤ 1000000)
  number_bounds = let x = within_bounds 1 t.session.last.0 number within_last in (x.0, omega (arith, h.last))

  at_its_place : found_item number t.items ≡ Some (at, s)
  at_its_place = numbered_once number t.items at s b is_numbered_lem (omega (arith, rw within_last at (h.distinct.once number)))

  in_use : unused t ≡ false
  in_use = not_so (unused t) (λ w. never (sym (all_at Inactive t.items at s b (all_unused Inactive t h w)) ∙ e))

  accepted : (net : Network) → spent t ≡ false → (seen_move t (step_move net are_nodes number t)).refusal ≡ none
  unfolding step_move step_at stepped
  accepted net l =
      ap (λ (x : Option (ℕ × Slot)). (seen_move t (step_at net are_nodes t x)).refusal) at_its_place
      ∙ ap (λ (m : Move). (seen_move t m).refusal) (checked_passed _ _ (in_use, (no_wait, (l, tt))))

-- ---- its call

module _ (s : State) (h : Sound s) (u : ℕ) (q : is_session u ≡ true)
    (at : ℕ) (x : Slot) (b : slot_at (load s u).items at ≡ Some x) (e : is_active x.item ≡ true) where
  abbrev t : Part
  t = load s u

  abbrev its : ℕ
  its = x.number.0

  k : Sane t
  k = h.sane u (numbered u q)

  bounds : (1 ≤ its) × (its ≤ 1000000)
  bounds = number_bounds t k at x b e

  its_line : read (text (step u its)) ≡ some (step u its)
  its_line = step_read u its (within_bounds 1 8 u q).1 bounds.1

  its_own : form_names u (read (text (step u its))) ≡ true
  its_own = rw its_line (eq-eqb u u refl)

  pub no_open : form_opens u (read (text (step u its))) ≡ false
  no_open = rw its_line

  pub its_refusal : spent t ≡ false → (size : ℕ) → 65536 ≤ size → (answered s (text (step u its)) size).refusal ≡ none
  unfolding local
  its_refusal l size big =
      ap (λ (x : Seen). x.refusal) (call_own s h.good u (numbered u q) (record { line = text (step u its); size = size }) its_own)
      ∙ rw (le-ltb size 65536 big, its_line, q, bounds_within 1 1000000 its bounds.0 bounds.1) (accepted t k at x b e s.network l)

  pub its_count : spent t ≡ false → (n : ℕ) → call_count u s n (roomy_call (text (step u its))) ≡ n + 1
  its_count l n =
      rw (its_own, its_refusal l 65536 (omega arith), its_line)
      (ap (λ (o : Option (ℕ × Slot)). cond (is_counted o) (n + 1) n) (at_its_place t k at x b e)
      ∙ ap (λ (w : Bool). cond w (n + 1) n) (set_up_lem t k at x b e))
