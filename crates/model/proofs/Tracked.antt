-- What a step keeps of a session's count: the steps taken and those that can follow stay within the ceiling. Assumes nothing.
use mathlib.Core.Path.{◌≡◌, refl, sym, subst, ◌∙◌}
use mathlib.Core.Bool.{Bool, true, false, cond}
use mathlib.Core.List.{List}
use Prim.Native.Nat.{ℕ, ◌+◌, ◌-◌, ◌≤◌, ◌<◌}
use native.Mathlib.Omega.{arith}
use lib.ListN.{set}
use Rattle.std.specs.Prelude.{Option, Some, None}
use Rattle.calculus.proofs.Tests.{never, either}
use Rattle.calculus.specs.declared.effect.Outcome.{Outcome}
use Rattle.calculus.specs.declared.effect.Outcome.TheVariants.{Wrote, WroteByDefault, WroteTwo, Lost, Denied, Opened, Delivered}
use Rattle.calculus.specs.declared.effect.Effect.{Effect}
use Rattle.calculus.specs.declared.network.Network.{Network}
use Rattle.calculus.specs.declared.packet.Item.{Item}
use Rattle.calculus.specs.declared.packet.Slot.{Slot}
use Rattle.calculus.specs.declared.request.Sender.{Sender}
use Rattle.calculus.specs.declared.request.Sender.TheVariants.{Client, Server}
use Rattle.calculus.specs.declared.session.Row.{Row}
use Rattle.calculus.specs.declared.session.Session.{Session}
use Rattle.calculus.specs.declared.state.Part.{Part}
use Rattle.model.specs.Lists.{All}
use Rattle.model.specs.Item.{is_wait, slot_at}
use Rattle.model.specs.Row.{held, are_nodes}
use Rattle.model.specs.Rules.{rule}
use Rattle.model.specs.State.{begun_after, added_rows, placed, session_after, applied}
use Rattle.model.specs.Requests.{data_item}
use Rattle.model.specs.SetUp.{is_set_up_item}
use Rattle.model.specs.Termination.{ceiling, is_active}
use Rattle.model.proofs.Checks.{one}
use Rattle.model.proofs.Lists.{all_map, all_set, all_append, all_take}
use Rattle.model.proofs.Weights.{weigh_out, counted, weigh_gone}
use Rattle.model.proofs.SetUpWeights.{active, grant_active}
use Rattle.model.proofs.Balance.{Law, rule_law}
use Rattle.model.proofs.Moves.{held_applied, none_added}
use Rattle.model.proofs.Named.{Written}
use Rattle.model.proofs.Sane.{At, Sane, all_at, all_after, none_items, all_items}
use Rattle.model.proofs.Points.{Chained, chained_more}
use Rattle.model.proofs.Underway.{Ends, Underway}
use Rattle.model.proofs.Advances.{advances}

-- ---- a part that is tracked

-- an item that is neither a wait nor Data is under way, n steps being counted
abbrev pub Tracks : Network → ℕ → ℕ → ℕ → ℕ → Item → Type 0
Tracks net c d b n i = is_active i ≡ true → Ends net c d × Underway net c d b n i

-- items and rows apart, so that either may go without the other
pub record Tracked (net : Network) (t : Part) (n : ℕ) : Type 0 where
  pub few : n ≤ ceiling
  pub items : All (At (Tracks net t.session.client t.session.server t.session.begun n)) t.items
  pub rows : All (Chained net t.session.client t.session.server t.session.begun) (held t)

-- ---- waits and Data

abbrev pub Inactive : Item → Type 0
Inactive i = is_active i ≡ false

active_one : (i : Item) → is_active i ≡ true → active i ≡ 1
unfolding active
active_one i e = rw e

pub inactive_none : (i : Item) → Inactive i → active i ≡ 0
unfolding active
inactive_none i e = rw e

none_inactive : (i : Item) → active i ≡ 0 → Inactive i
unfolding active
none_inactive i h = go (is_active i) h
  where
    go : (b : Bool) → one b ≡ 0 → b ≡ false
    go true h = absurd (omega arith)
    go false h = refl

module _ (P Q : Item → Type 0) (f : (i : Item) → P i → Q i) where
  written_map : (o : Outcome) → Written P o → Written Q o
  written_map (Wrote i) h = f i h
  written_map (WroteByDefault i) h = f i h
  written_map (WroteTwo i j) h = (f i h.0, f j h.1)
  written_map (Lost k) h = tt
  written_map Denied h = tt
  written_map Opened h = tt
  written_map (Delivered tag) h = tt

pub written_inactive : (o : Outcome) → weigh_out active o ≤ 0 → Written Inactive o
written_inactive (Wrote i) h = none_inactive i (omega arith)
written_inactive (WroteByDefault i) h = none_inactive i (omega arith)
written_inactive (WroteTwo i j) h = (none_inactive i (omega arith), none_inactive j (omega arith))
written_inactive (Lost k) h = tt
written_inactive Denied h = tt
written_inactive Opened h = tt
written_inactive (Delivered tag) h = tt

pub data_inactive : (s : Session) (w : Sender) (tag : ℕ) → Inactive (data_item s w tag)
data_inactive s Client tag = refl
data_inactive s Server tag = refl

-- ---- a step

module _ (net : Network) (t : Part) (h : Sane t) (n : ℕ) (k : Tracked net t n)
    (at : ℕ) (s : Slot) (b : slot_at t.items at ≡ Some s) (w : is_wait s.item ≡ false) where
  abbrev item : Item
  item = s.item

  abbrev effect : Effect
  effect = rule net are_nodes t item

  abbrev stepped : Part
  stepped = applied t at effect

  law : Law t.session item effect
  law = rule_law net are_nodes t item

  abbrev begun : ℕ
  begun = begun_after t.session.begun effect.begins

  abbrev Later : ℕ → Item → Type 0
  Later m i = Tracks net t.session.client t.session.server begun m i

  abbrev rest : List (Option Slot)
  rest = set t.items at None

  abbrev LaterRow : Row → Type 0
  LaterRow r = Chained net t.session.client t.session.server begun r

  tracked_later : (m : ℕ) → m ≤ ceiling → All (At (Later m)) rest → Written (Later m) effect.outcome
      → All LaterRow (added_rows effect.added) → Tracked net stepped m
  unfolding applied session_after
  tracked_later m few others written added =
      record {
        few = few;
        items = all_after (Later m) t.items t.session.last.0 at effect others written;
        rows = rw (held_applied t h.roomy.whole at effect)
            (all_append LaterRow (held t) (placed t.session.rows effect.added)
            (all_map _ LaterRow (chained_more net _ _ _ begun law.begins.0) (held t) k.rows)
            (all_take LaterRow (32 - t.session.rows) (added_rows effect.added) added));
      }

  -- the others are waits and Data
  others_inactive : is_active item ≡ true → All (At Inactive) rest
  unfolding active
  others_inactive e =
      none_items is_active rest
      (omega (arith, h.roomy.actives, weigh_gone active t.items at s b, active_one item e, counted is_active rest))

  active_step : is_active item ≡ true → Tracked net stepped (n + 1)
  active_step e =
      let x = all_at (Tracks net _ _ _ n) t.items at s b k.items e in
      let next = advances net t n x.0 k.rows item x.1 in
      tracked_later (n + 1) next.counted
      (all_items Inactive (Later (n + 1)) (λ i q o. never (sym q ∙ o)) rest (others_inactive e))
      (written_map _ (Later (n + 1)) (λ i v o. (x.0, v o)) effect.outcome next.written)
      next.added

  inactive_step : is_active item ≡ false → Tracked net stepped n
  inactive_step e =
      let z = inactive_none item e in
      let same : t.session.begun ≡ begun = omega (arith, law.begins, z) in
      tracked_later n k.few
      (subst (λ (x : ℕ). All (At (Tracks net t.session.client t.session.server x n)) rest) same
      (all_set (At (Tracks net _ _ _ n)) t.items at None k.items tt))
      (written_map Inactive (Later n) (λ i q o. never (sym q ∙ o)) effect.outcome (written_inactive effect.outcome (omega (arith, law.actives, z))))
      (rw (none_added effect.added (omega (arith, law.adds, grant_active item, z))) tt)

  pub step_tracked : Tracked net stepped (cond (is_set_up_item item) (n + 1) n)
  step_tracked = either (Tracked net stepped) (is_set_up_item item) (λ e. active_step (rw (e, w))) (λ e. inactive_step (rw e))
