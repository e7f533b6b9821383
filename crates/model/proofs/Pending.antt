-- No two pending items have one number, and each has one that was issued. Assumes nothing.
use mathlib.Core.Path.{◌≡◌}
use mathlib.Core.Bool.{Bool, true, false}
use mathlib.Core.List.{List, [], ◌∷◌}
use Prim.Native.Nat.{ℕ, zero, suc, ◌+◌, ◌≤◌}
use native.Mathlib.Nat.{add-zero}
use native.Mathlib.Omega.{arith}
use native.Mathlib.Decide.{ℕ_discrete}
use lib.Dec.{eqb}
use lib.ListN.{set}
use borrow.Author.Tests.{le-leb, lt-leb, eq-eqb, ne_eqb}
use Rattle.std.specs.Prelude.{Option, Some, None, position}
use Rattle.calculus.specs.Number.{within}
use Rattle.calculus.proofs.Tests.{within_bounds, either}
use Rattle.calculus.specs.declared.effect.Outcome.{Outcome}
use Rattle.calculus.specs.declared.effect.Outcome.TheVariants.{Wrote, WroteByDefault, WroteTwo, Lost, Denied, Opened, Delivered}
use Rattle.calculus.specs.declared.effect.Wait.{Wait}
use Rattle.calculus.specs.declared.effect.Effect.{Effect}
use Rattle.calculus.specs.declared.packet.Item.{Item}
use Rattle.calculus.specs.declared.packet.Slot.{Slot}
use Rattle.calculus.specs.declared.session.Stage.{Stage}
use Rattle.calculus.specs.declared.state.Part.{Part}
use Rattle.model.specs.Lists.{tally}
use Rattle.model.specs.Item.{is_that_wait, of_item}
use Rattle.model.specs.State.{is_numbered, set_found, use_up, put_item, written, written_count, items_after, session_after, applied}
use Rattle.model.specs.Requests.{with_item}
use Rattle.model.proofs.Checks.{one, one_le}

pub record Distinct (t : Part) : Type 0 where
  pub once : (k : ℕ) → tally (is_numbered k) t.items ≤ one (within 1 t.session.last.0 k)

-- ---- places

tally_set : {A : Type 0} (f : A → Bool) (l : List A) (i : ℕ) (x : A) → tally f (set l i x) ≤ tally f l + one (f x)
tally_set f [] i x = omega arith
tally_set f (y ∷ l) zero x = omega (arith, one_le (f y))
tally_set f (y ∷ l) (suc i) x = omega (arith, tally_set f l i x)

tally_found : {A : Type 0} (f : A → Bool) (l : List A) (o : Option ℕ) (x : A) → tally f (set_found l o x) ≤ tally f l + one (f x)
tally_found f l None x = omega arith
tally_found f l (Some i) x = tally_set f l i x

module _ (k : ℕ) where
  abbrev times : List (Option Slot) → ℕ
  times l = tally (is_numbered k) l

  put_once : (l : List (Option Slot)) (n : ℕ) (i : Item) → times (put_item l n i) ≤ times l + one (eqb n k)
  unfolding put_item
  put_once l n i = tally_found (is_numbered k) l _ _

  gone_once : (l : List (Option Slot)) (at : ℕ) (w : Option Wait) → times (use_up (set l at None) w) ≤ times l
  unfolding use_up
  gone_once l at None = omega (arith, tally_set (is_numbered k) l at None)
  gone_once l at (Some w) =
      let rest : List (Option Slot) = set l at None in
      omega (
        arith,
        tally_found (is_numbered k) rest (position (of_item (is_that_wait w)) rest) None,
        tally_set (is_numbered k) l at None,
      )

  -- the next number was not issued before
  next_once : (n : ℕ) → one (within 1 n k) + one (eqb (n + 1) k) ≤ one (within 1 (n + 1) k)
  next_once n = go (ℕ_discrete (n + 1) k)
    where
      go : Dec (n + 1 ≡ k) → one (within 1 n k) + one (eqb (n + 1) k) ≤ one (within 1 (n + 1) k)
      go (yes e) = rw (eq-eqb (n + 1) k e, lt-leb k n (omega arith), le-leb 1 k (omega arith), le-leb k (n + 1) (omega arith)) (omega arith)
      go (no e) =
          rw (ne_eqb (n + 1) k e)
          (either (λ (x : ℕ). x + 0 ≤ one (within 1 (n + 1) k)) (within 1 n k)
          (λ h.
          let b = within_bounds 1 n k h in
          rw (le-leb 1 k b.0, le-leb k (n + 1) (omega (arith, b))) (omega arith))
          (λ h. omega arith))

  written_once : (l : List (Option Slot)) (n : ℕ) (o : Outcome) → times l ≤ one (within 1 n k) → times (written l n o) ≤ one (within 1 (n + written_count o) k)
  written_once l n (Wrote i) h = omega (arith, put_once l (n + 1) i, next_once n)
  written_once l n (WroteByDefault i) h = omega (arith, put_once l (n + 1) i, next_once n)
  written_once l n (WroteTwo i j) h =
      let e : n + 1 + 1 ≡ n + 2 = omega arith in
      let second = rw e at (next_once (n + 1)) in
      omega (arith, put_once (put_item l (n + 1) i) (n + 2) j, put_once l (n + 1) i, next_once n, second)
  written_once l n (Lost x) h = simp add-zero h
  written_once l n Denied h = simp add-zero h
  written_once l n Opened h = simp add-zero h
  written_once l n (Delivered tag) h = simp add-zero h

-- ---- the parts that requests leave

module _ (t : Part) (h : Distinct t) where
  pub distinct_step : (at : ℕ) (f : Effect) → Distinct (applied t at f)
  unfolding applied session_after items_after
  distinct_step at f =
      record {
        once = λ k.
            written_once k (use_up (set t.items at None) f.wait) t.session.last.0 f.outcome
            (omega (arith, gone_once k t.items at f.wait, h.once k));
      }

  pub distinct_item : (g : Stage) (c d : ℕ) (i : Item) → Distinct (with_item t g c d i)
  distinct_item g c d i = record { once = λ k. written_once k t.items t.session.last.0 (Wrote i) (h.once k) }
