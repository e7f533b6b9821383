-- There is room: every request leaves a place for each item and row to come, and each wait that is to be used up. Assumes nothing.
use mathlib.Core.Path.{◌≡◌, refl, ap, ◌∙◌}
use mathlib.Core.Bool.{Bool, true, false, cond}
use mathlib.Core.List.{List}
use Prim.Native.Nat.{ℕ, ◌+◌, ◌-◌, ◌*◌, ◌≤◌, ◌<◌}
use native.Mathlib.Omega.{arith}
use lib.Dec.{eqb}
use lib.ListN.{length, set, replicate, length-append}
use Rattle.std.specs.Prelude.{Option, Some, None}
use Rattle.calculus.specs.Number.{within}
use Rattle.calculus.proofs.Tests.{either}
use Rattle.calculus.specs.declared.effect.Wait.{Wait}
use Rattle.calculus.specs.declared.effect.Effect.{Effect}
use Rattle.calculus.specs.declared.packet.Item.{Item}
use Rattle.calculus.specs.declared.packet.Slot.{Slot}
use Rattle.calculus.specs.declared.session.Row.{Row}
use Rattle.calculus.specs.declared.session.Stage.{Stage}
use Rattle.calculus.specs.declared.state.Part.{Part}
use Rattle.model.specs.State.{blank_row, begun_after, added_rows, placed, put_item, session_after, applied}
use Rattle.model.specs.Lists.{tally, up_from}
use Rattle.model.specs.Item.{is_wait, slot_at}
use Rattle.model.specs.Row.{held, is_of}
use Rattle.model.specs.Requests.{next_number, with_item, dropping}
use Rattle.model.proofs.Checks.{one}
use Rattle.model.proofs.Parts.{Whole}
use Rattle.model.proofs.Weights.{every, weigh, weigh_out, weigh_wait, weigh_gone, weigh_at, weigh_put, not_that_wait, length_put, ledger}
use Rattle.model.proofs.Lists.{tally_append, tally_take, tally_each, tally_split}
use Rattle.model.proofs.Moves.{held_applied, applied_whole, held_dropping, dropping_whole}
use Rattle.model.proofs.SetUpWeights.{waits, uses, space, carries, active, due, rows_of, begun_of, each, spare, pending, pends, begun_each, begun_once}
use Rattle.model.proofs.Balance.{Law}

pub record Roomy (t : Part) : Type 0 where
  pub whole : Whole t
  -- each wait pends as often as it is to be used up
  pub waits : (v : Wait) → weigh (uses v) t.items ≤ weigh (waits v) t.items
  -- the set-up holds 3 places at most, Data 12; an unused session holds none
  pub places : weigh space t.items + spare t.session.stage ≤ 3
  pub tags : weigh carries t.items + 4 * spare t.session.stage ≤ 12
  -- one item at most is neither a wait nor Data
  pub actives : weigh active t.items ≤ 1
  pub begun : t.session.begun ≤ 8
  pub counted : length (held t) ≡ t.session.rows
  -- of any establishments, those that w holds of: their rows and those to come are 4 at most for each that is begun
  pub rows : (w : ℕ → Bool) → weigh (due w) t.items + rows_of w (held t) ≤ 4 * begun_of w t.session.begun

-- a part with no items and no rows
abbrev pub emptied : ℕ → Part
emptied last =
    record {
      session = record { stage = Stage.Unused; client = 0; server = 0; begun = 0; rows = 0; last = record { 0 = last } };
      items = replicate 16 None;
      rows = replicate 32 blank_row;
    }

pub roomy_empty : (last : ℕ) → Roomy (emptied last)
unfolding weigh uses space carries active due up_from
roomy_empty last = omega arith

module _ (t : Part) (h : Roomy t) where
  -- of one establishment
  pub rows_each : (e : ℕ) → tally (is_of e) (held t) ≤ cond (within 1 t.session.begun e) 4 0
  rows_each e = go (within 1 t.session.begun e) (begun_once e t.session.begun)
    where
      go : (b : Bool) → begun_of (λ f. eqb f e) t.session.begun ≤ one b → tally (is_of e) (held t) ≤ cond b 4 0
      go true k = omega (arith, h.rows (λ f. eqb f e))
      go false k = omega (arith, h.rows (λ f. eqb f e))

  pub rows_four : (e : ℕ) → tally (is_of e) (held t) ≤ 4
  rows_four e = either (λ (n : ℕ). tally (is_of e) (held t) ≤ n → tally (is_of e) (held t) ≤ 4) (within 1 t.session.begun e) (λ w k. k) (λ w k. omega arith) (rows_each e)

  -- of all
  pub few_rows : weigh (due each) t.items + t.session.rows ≤ 4 * t.session.begun
  few_rows = omega (arith, h.rows each, h.counted, tally_each (held t), begun_each t.session.begun)

  -- ---- a step

  module _ (at : ℕ) (s : Slot) (e : slot_at t.items at ≡ Some s) (w : is_wait s.item ≡ false) (f : Effect) (law : Law t.session s.item f) where
    abbrev item : Item
    item = s.item

    abbrev rest : List (Option Slot)
    rest = set t.items at None

    -- no wait is gone with the item
    still : (v : Wait) → uses v item ≤ weigh (waits v) rest
    unfolding waits uses
    still v =
        omega (arith, weigh_at (uses v) t.items at s e, h.waits v, weigh_gone (waits v) t.items at s e, not_that_wait v item w)

    pub step_ledger : (x : Item → ℕ)
        → weigh x (applied t at f).items + (x item + weigh_wait x f.wait) ≡ weigh x t.items + weigh_out x f.outcome
    unfolding applied
    step_ledger x =
        ledger x t.items t.session.last.0 at s f e (pends item rest still f.wait law.wants) (omega (arith, law.writes, h.whole.items, h.places, h.tags, pending t.items))

    -- the rows that are added find a place
    pub rows_fit : length (added_rows f.added) ≤ 32 - t.session.rows
    unfolding due
    rows_fit =
        omega (
          arith,
          law.rows each,
          tally_each (added_rows f.added),
          begun_each t.session.begun,
          begun_each (begun_after t.session.begun f.begins),
          few_rows,
          weigh_at (due each) t.items at s e,
          law.begun,
          h.begun,
        )

    abbrev came : List Row
    came = placed t.session.rows f.added

    pub roomy_step : Roomy (applied t at f)
    unfolding waits uses space carries active due applied session_after
    roomy_step =
        record {
          whole = applied_whole t h.whole at f;
          waits = λ v.
              omega (
                arith,
                step_ledger (uses v),
                step_ledger (waits v),
                law.waits v,
                h.waits v,
                not_that_wait v item w,
              );
          places = omega (arith, step_ledger space);
          tags = omega (arith, step_ledger carries);
          actives = omega (arith, step_ledger active, law.actives);
          begun = omega (arith, law.begun, h.begun);
          counted = rw (held_applied t h.whole at f) (omega (arith, length-append (held t) came, h.counted));
          rows = λ v.
              rw (held_applied t h.whole at f)
              (omega (
                arith,
                step_ledger (due v),
                law.rows v,
                h.rows v,
                tally_append (λ r. v r.establishment) (held t) came,
                tally_take (λ r. v r.establishment) (32 - t.session.rows) (added_rows f.added),
              ));
        }

  -- ---- an item more, for which nothing waits

  pub roomy_item : (g : Stage) (c d : ℕ) (i : Item) → ((v : Wait) → uses v i ≡ 0) → ((w : ℕ → Bool) → due w i ≡ 0)
      → weigh space t.items + space i + spare g ≤ 3 → weigh carries t.items + carries i + 4 * spare g ≤ 12
      → weigh active t.items + active i ≤ 1 → Roomy (with_item t g c d i)
  unfolding waits uses space carries active due
  roomy_item g c d i no-waits no_rows places tags actives =
      let n = next_number t in
      let room : weigh every t.items < length t.items = omega (arith, pending t.items) in
      let put : (x : Item → ℕ) → weigh x (put_item t.items n i) ≡ weigh x t.items + x i = λ x. weigh_put x t.items n i room in
      record {
        whole = record { items = length_put t.items n i ∙ h.whole.items; rows = h.whole.rows };
        waits = λ v. omega (arith, put (uses v), put (waits v), h.waits v, no-waits v);
        places = omega (arith, put space);
        tags = omega (arith, put carries);
        actives = omega (arith, put active);
        begun = h.begun;
        counted = h.counted;
        rows = λ w. omega (arith, put (due w), no_rows w, h.rows w);
      }

  -- ---- a drop

  pub roomy_dropping : (e : ℕ) → Roomy (dropping e t)
  unfolding dropping
  roomy_dropping e =
      let left = held_dropping e t in
      record {
        whole = dropping_whole e t h.whole;
        waits = h.waits;
        places = h.places;
        tags = h.tags;
        actives = h.actives;
        begun = omega (arith, h.begun);
        counted = ap length left;
        rows = λ w. rw left (omega (arith, h.rows w, tally_split (is_of e) (λ r. w r.establishment) (held t)));
      }
