-- A set-up's steps are bounded, its items can be stepped, and in the end only waits and Data are left. Assumes nothing.
use mathlib.Core.Path.{◌≡◌, refl, sym, ◌∙◌}
use mathlib.Core.Bool.{Bool, true, false, cond}
use mathlib.Core.List.{List, [], ◌∷◌}
use mathlib.Core.Option.{none}
use mathlib.Core.Logic.{◌⊎◌, inl, inr}
use Prim.Native.Nat.{ℕ, suc, ◌+◌, ◌≤◌, ◌<◌}
use native.Mathlib.Omega.{arith}
use lib.ListN.{length}
use Rattle.std.specs.Prelude.{Option, Some, None}
use Rattle.calculus.proofs.Tests.{Way, is, isnt, way, never}
use Rattle.calculus.specs.Number.{is_session}
use Rattle.calculus.specs.declared.packet.Slot.{Slot}
use Rattle.calculus.specs.declared.state.State.{State}
use Rattle.forms.specs.Text.{step, text}
use Rattle.model.specs.Lists.{All}
use Rattle.model.specs.Item.{of_item, OfSlot, how_many_items, slot_at}
use Rattle.model.specs.State.{fresh, load}
use Rattle.model.specs.Requests.{spent}
use Rattle.model.specs.Calls.{answered, Call, roomy_call, call, after}
use Rattle.model.specs.Termination.{ceiling, call_count, set_up_steps, is_active, Settled, active_steps, after_rounds, opens, Terminates, Termination}
use Rattle.model.proofs.Checks.{one}
use Rattle.model.proofs.Lists.{all_of_get_d}
use Rattle.model.proofs.Parts.{Numbered}
use Rattle.model.proofs.Weights.{counted}
use Rattle.model.proofs.SetUpWeights.{active}
use Rattle.model.proofs.Replies.{numbered}
use Rattle.model.proofs.Settled.{call_settled, count_grows}
use Rattle.model.proofs.Bounded.{Follows, call_follows, calls_follow, fresh_follows}
use Rattle.model.proofs.Progress.{no_open, its_refusal, its_count}

-- ---- rounds

-- the step call of an item
abbrev step_call : ℕ → Slot → Call
step_call u s = roomy_call (text (step u s.number.0))

-- the step calls of a session of whose items one at most is neither a wait nor Data
data Steps (u : ℕ) (l : List (Option Slot)) : List Call → Type 0 where
  no_step : how_many_items is_active l ≡ 0 → Steps u l []
  one_step : (at : ℕ) (s : Slot) → slot_at l at ≡ Some s → is_active s.item ≡ true → Steps u l (step_call u s ∷ [])

no_steps : (u : ℕ) (l : List (Option Slot)) → how_many_items is_active l ≡ 0 → active_steps u l ≡ []
no_steps u [] h = refl
no_steps u (None ∷ l) h = no_steps u l (omega arith)
no_steps u (Some s ∷ l) h = go (is_active s.item) h (no_steps u l)
  where
    go : (b : Bool) → one b + how_many_items is_active l ≡ 0 → (how_many_items is_active l ≡ 0 → active_steps u l ≡ [])
        → cond b (step_call u s ∷ active_steps u l) (active_steps u l) ≡ []
    go true k g = absurd (omega arith)
    go false k g = g (omega arith)

behind : (u : ℕ) (x : Option Slot) (l : List (Option Slot)) (cs : List Call) → of_item is_active x ≡ false → Steps u l cs → Steps u (x ∷ l) cs
behind u x l cs e (no_step z) = no_step (rw e (omega arith))
behind u x l cs e (one_step at s b k) = one_step (suc at) s b k

steps : (u : ℕ) (l : List (Option Slot)) → how_many_items is_active l ≤ 1 → Steps u l (active_steps u l)
steps u [] h = no_step refl
steps u (None ∷ l) h = behind u None l (active_steps u l) refl (steps u l (omega arith))
steps u (Some s ∷ l) h = go (way (is_active s.item)) (steps u l)
  where
    go : Way (is_active s.item) → (how_many_items is_active l ≤ 1 → Steps u l (active_steps u l)) → Steps u (Some s ∷ l) (active_steps u (Some s ∷ l))
    go (is e) g =
        let z : how_many_items is_active l ≡ 0 = omega (arith, rw e at h) in
        rw (e, no_steps u l z) (one_step 0 s refl e)
    go (isnt e) g = rw e (behind u (Some s) l (active_steps u l) e (g (omega (arith, rw e at h))))

each_slot : (P : Slot → Type 0) (x : Option Slot) → ((s : Slot) → x ≡ Some s → P s) → OfSlot P x
each_slot P None h = tt
each_slot P (Some s) h = h s refl

module _ (u : ℕ) (q : is_session u ≡ true) where
  hu : Numbered u
  hu = numbered u q

  few_active : (s : State) (n : ℕ) → Follows u s n → how_many_items is_active (load s u).items ≤ 1
  unfolding active
  few_active s n f = omega (arith, (f.sound.sane u hu).roomy.actives, counted is_active (load s u).items)

  -- it is settled, or the ceiling leaves k steps at most
  abbrev Ending : State → ℕ → ℕ → Type 0
  Ending s n k = Settled (load s u) ⊎ (ceiling ≤ n + k)

  -- no call but an open takes it further from its end
  calls_end : (cs : List Call) → All (λ c. opens u c ≡ false) cs → (s : State) (n : ℕ) → Follows u s n → (k : ℕ) → Ending s n k
      → Ending (after s cs) (set_up_steps u s n cs) k
  unfolding after set_up_steps
  calls_end [] a s n f k e = e
  calls_end (c ∷ cs) a s n f k e = calls_end cs a.1 (call s c).state (call_count u s n c) (call_follows u hu s n f c) k (go e)
    where
      go : Ending s n k → Ending (call s c).state (call_count u s n c) k
      go (inl e) = inl (call_settled u hu s f.sound c a.0 e)
      go (inr e) = inr (omega (arith, count_grows u s n c a.0))

  -- a round's steps settle it, or one is counted
  round : (s : State) (n : ℕ) → Follows u s n → (k : ℕ) → Ending s n (suc k) → (cs : List Call) → Steps u (load s u).items cs
      → Ending (after s cs) (set_up_steps u s n cs) k
  unfolding after set_up_steps
  round s n f k g cs (no_step z) = inl (λ l. z)
  round s n f k g cs (one_step at x b e) = go (way (spent (load s u))) g
    where
      c : Call
      c = step_call u x

      stays : Settled (load s u) → Ending (call s c).state (call_count u s n c) k
      stays g = inl (call_settled u hu s f.sound c (no_open s f.sound u q at x b e) g)

      go : Way (spent (load s u)) → Ending s n (suc k) → Ending (call s c).state (call_count u s n c) k
      go (is w) g = stays (λ l. never (sym l ∙ w))
      go (isnt w) (inl g) = stays g
      go (isnt w) (inr g) = inr (omega (arith, its_count s f.sound u q at x b e w n))

  -- with no step left by the ceiling
  at_ceiling : (s : State) (n : ℕ) → Follows u s n → ceiling ≤ n → Settled (load s u)
  at_ceiling s n f m l = go (active_steps u (load s u).items) (steps u (load s u).items (few_active s n f))
    where
      go : (cs : List Call) → Steps u (load s u).items cs → how_many_items is_active (load s u).items ≡ 0
      go cs (no_step z) = z
      go cs (one_step at x b e) =
          absurd (omega (arith, its_count s f.sound u q at x b e l n, (call_follows u hu s n f (step_call u x)).tracked.few))

  settle : (rounds : List (List Call)) → All (All (λ c. opens u c ≡ false)) rounds → (s : State) (n : ℕ) → Follows u s n
      → Ending s n (length rounds) → Settled (load (after_rounds u s rounds) u)
  unfolding after_rounds
  settle [] a s n f (inl k) = k
  settle [] a s n f (inr k) = at_ceiling s n f (omega arith)
  settle (cs ∷ rounds) a s n f k =
      let r = after s cs in
      let l = (load r u).items in
      let g = calls_follow u hu cs s n f in
      settle rounds a.1 _ _ (calls_follow u hu (active_steps u l) r _ g)
      (round r _ g (length rounds) (calls_end cs a.0 s n f _ k) (active_steps u l) (steps u l (few_active r _ g)))

  terminates : (cs : List Call) → Terminates cs u
  terminates cs =
      let f = calls_follow u hu cs fresh 0 (fresh_follows u hu) in
      record {
        bounded = f.tracked.few;
        progress = λ l size big.
            let Steps' : Slot → Type 0 = λ x. is_active x.item ≡ true → (answered (after fresh cs) (text (step u x.number.0)) size).refusal ≡ none in
            let l' = (load (after fresh cs) u).items in
            all_of_get_d (OfSlot Steps') l' None (λ at b. each_slot Steps' (slot_at l' at) (λ s h e. its_refusal (after fresh cs) f.sound u q at s h e l size big));
        settles = λ rounds a k. settle rounds a (after fresh cs) _ f (inr k);
      }

pub termination : Termination
termination = record { figures = (refl, refl, refl); holds = λ cs u q. terminates u q cs }
