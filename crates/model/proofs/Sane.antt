-- What every request of a session keeps of its part: there is room, and items, rows and ends name nodes. Assumes nothing.
use mathlib.Core.Path.{◌≡◌, refl, sym, subst, ◌∙◌}
use mathlib.Core.Bool.{Bool, true, false, ◌&&◌}
use mathlib.Core.List.{List, [], ◌∷◌}
use Prim.Native.Nat.{ℕ, ◌+◌, ◌-◌, ◌≤◌}
use native.Mathlib.Omega.{arith}
use lib.Dec.{leb}
use lib.ListN.{set}
use borrow.Author.Tests.{ltb-false, leb-false, eqb-false, not-false}
use Rattle.std.specs.Prelude.{Option, Some, None, is_some, Ok, Err}
use Rattle.calculus.proofs.Tests.{both, never}
use Rattle.calculus.specs.declared.effect.Outcome.{Outcome}
use Rattle.calculus.specs.declared.effect.Outcome.TheVariants.{Wrote, WroteByDefault, WroteTwo, Lost, Denied, Opened, Delivered}
use Rattle.calculus.specs.declared.effect.Effect.{Effect}
use Rattle.calculus.specs.declared.effect.Wait.{Wait}
use Rattle.calculus.specs.declared.network.Network.{Network}
use Rattle.calculus.specs.declared.packet.Payload.TheVariants.{Disc, Data}
use Rattle.calculus.specs.declared.packet.Item.{Item}
use Rattle.calculus.specs.declared.packet.Item.TheVariants.{Wire, Out}
use Rattle.calculus.specs.declared.packet.Slot.{Slot}
use Rattle.calculus.specs.declared.request.Sender.{Sender}
use Rattle.calculus.specs.declared.request.Sender.TheVariants.{Client, Server}
use Rattle.calculus.specs.declared.session.Stage.{Stage}
use Rattle.calculus.specs.declared.state.Part.{Part}
use Rattle.model.specs.Network.{given}
use Rattle.model.specs.Packet.{bare}
use Rattle.model.specs.Item.{is_data_item, of_item, OfSlot, how_many_items, slot_at}
use Rattle.model.specs.Row.{held, is_other}
use Rattle.model.specs.Rules.{rule}
use Rattle.model.specs.State.{set_found, use_up, put_item, written, written_count, stage_after, added_rows, placed, items_after, session_after, applied}
use Rattle.model.specs.GivenBack.{Consistent}
use Rattle.model.specs.Requests.{Move, is_unused, unused, spent, next_number, with_item, opening, open_move, stepped, step_move, sending, send_move, closing, close_move, dropping, drop_move, step_at}
use Rattle.model.proofs.Checks.{checked_either}
use Rattle.model.specs.Lists.{tally, All}
use Rattle.model.proofs.Lists.{all_set, all_get, all_append, all_take, all_replicate, all_map, all_those, none_tallied, tally_none}
use Rattle.model.proofs.Nodes.{Node, given_node}
use Rattle.model.proofs.Weights.{counted, weigh_le, pending_weigh}
use Rattle.model.proofs.SetUpWeights.{uses, space, carries, active, due, spare, active_space, pending}
use Rattle.model.proofs.Steps.{Stepping, step_either}
use Rattle.model.proofs.Balance.{rule_law}
use Rattle.model.proofs.Pending.{Distinct, distinct_step, distinct_item}
use Rattle.model.proofs.Roomy.{Roomy, emptied, roomy_empty, roomy_step, roomy_item, roomy_dropping}
use Rattle.model.proofs.Moves.{held_applied, held_dropping}
use Rattle.model.proofs.Named.{Named, RowNamed, Written, bare_named, rule_named}

-- ---- every item

-- of the item in a place, if there is one
abbrev pub At : (Item → Type 0) → Option Slot → Type 0
At P x = OfSlot (λ s. P s.item) x

module _ (P : Item → Type 0) where
  pub all_at : (l : List (Option Slot)) (at : ℕ) (s : Slot) → slot_at l at ≡ Some s → All (At P) l → P s.item
  all_at l at s e h = subst (At P) e (all_get (At P) l at None h tt)

  all_found : (l : List (Option Slot)) (o : Option ℕ) (x : Option Slot) → All (At P) l → At P x → All (At P) (set_found l o x)
  all_found l None x h k = h
  all_found l (Some at) x h k = all_set (At P) l at x h k

  pub all_put : (l : List (Option Slot)) (n : ℕ) (i : Item) → All (At P) l → P i → All (At P) (put_item l n i)
  unfolding put_item
  all_put l n i h k = all_found l _ (Some (record { number = record { 0 = n }; item = i })) h k

  all_written : (l : List (Option Slot)) (n : ℕ) (o : Outcome) → All (At P) l → Written P o → All (At P) (written l n o)
  all_written l n (Wrote i) h k = all_put l (n + 1) i h k
  all_written l n (WroteByDefault i) h k = all_put l (n + 1) i h k
  all_written l n (WroteTwo i j) h k = all_put (put_item l (n + 1) i) (n + 2) j (all_put l (n + 1) i h k.0) k.1
  all_written l n (Lost e) h k = h
  all_written l n Denied h k = h
  all_written l n Opened h k = h
  all_written l n (Delivered tag) h k = h

  all_used : (l : List (Option Slot)) (w : Option Wait) → All (At P) l → All (At P) (use_up l w)
  unfolding use_up
  all_used l None h = h
  all_used l (Some w) h = all_found l _ None h tt

  pub all_after : (l : List (Option Slot)) (n at : ℕ) (f : Effect) → All (At P) (set l at None) → Written P f.outcome
      → All (At P) (items_after l n at f)
  unfolding items_after
  all_after l n at f h k = all_written (use_up (set l at None) f.wait) n f.outcome (all_used (set l at None) f.wait h) k

  -- where nothing pends every place is free
  all_free : (l : List (Option Slot)) → tally is_some l ≡ 0 → All (At P) l
  all_free [] h = tt
  all_free (None ∷ l) h = (tt, all_free l (omega arith))
  all_free (Some s ∷ l) h = absurd (omega arith)

module _ (f : Item → Bool) where
  -- what holds of no item, and what does not hold of each
  pub none_items : (l : List (Option Slot)) → how_many_items f l ≡ 0 → All (At (λ i. f i ≡ false)) l
  none_items l h = all_map (λ x. of_item f x ≡ false) (At (λ i. f i ≡ false)) go l (none_tallied (of_item f) l h)
    where
      go : (x : Option Slot) → of_item f x ≡ false → At (λ i. f i ≡ false) x
      go None e = tt
      go (Some s) e = e

  pub items_none : (l : List (Option Slot)) → All (At (λ i. f i ≡ false)) l → how_many_items f l ≡ 0
  items_none l h = tally_none (of_item f) l (all_map (At (λ i. f i ≡ false)) (λ x. of_item f x ≡ false) go l h)
    where
      go : (x : Option Slot) → At (λ i. f i ≡ false) x → of_item f x ≡ false
      go None e = refl
      go (Some s) e = e

-- what holds of each item
pub all_items : (P Q : Item → Type 0) → ((i : Item) → P i → Q i) → (l : List (Option Slot)) → All (At P) l → All (At Q) l
all_items P Q f l h = all_map (At P) (At Q) go l h
  where
    go : (x : Option Slot) → At P x → At Q x
    go None k = tt
    go (Some s) k = f s.item k

-- ---- a sane part

pub record Sane (t : Part) : Type 0 where
  pub roomy : Roomy t
  pub rows : All RowNamed (held t)
  pub items : All (At (Named t.session.server)) t.items
  pub ends : unused t ≡ false → Node t.session.client × Node t.session.server
  pub last : t.session.last.0 ≤ 1000000
  pub distinct : Distinct t
  pub idle : unused t ≡ true → (t.session.rows ≡ 0) × (t.session.begun ≡ 0)

abbrev pub SaneMove : Move → Type 0
SaneMove (Err r) = Unit
SaneMove (Ok m) = Sane m.part

pub sane_empty : (last : ℕ) → last ≤ 1000000 → Sane (emptied last)
sane_empty last b =
    record {
      roomy = roomy_empty last;
      rows = tt;
      items = all_replicate (At (Named 0)) 16 None tt;
      ends = λ e. never (sym e);
      last = b;
      distinct = record { once = λ k. omega arith };
      idle = λ e. (refl, refl);
    }

-- an unused session has no items
pub unused_none : (t : Part) → Roomy t → unused t ≡ true → tally is_some t.items ≡ 0
unused_none t h u =
    let z : spare t.session.stage ≡ 3 = rw u in
    omega (arith, h.places, h.tags, pending_weigh t.items, pending t.items)

pub all_unused : (P : Item → Type 0) (t : Part) → Sane t → unused t ≡ true → All (At P) t.items
all_unused P t h u = all_free P t.items (unused_none t h.roomy u)

-- a session in use stays so in a step
still_used : (g g' : Stage) → is_unused g ≡ false → is_unused g' ≡ true → spare g' ≤ spare g → ⊥
still_used g g' u e h =
    let a : spare g ≡ 0 = rw u in
    let b : spare g' ≡ 3 = rw e in
    omega (arith, a, b, h)

-- a step writes two items at most
written_few : (o : Outcome) → written_count o ≤ 2
written_few (Wrote i) = omega arith
written_few (WroteByDefault i) = omega arith
written_few (WroteTwo i j) = omega arith
written_few (Lost k) = omega arith
written_few Denied = omega arith
written_few Opened = omega arith
written_few (Delivered tag) = omega arith

module _ (t : Part) (h : Sane t) where
  -- ---- step

  module _ (n : Network) (hn : Consistent n) (standing : ℕ → ℕ → Bool) where
    sane_applied : (at : ℕ) (s : Slot) → slot_at t.items at ≡ Some s → Stepping t s → Sane (applied t at (rule n standing t s.item))
    unfolding applied session_after
    sane_applied at s e p =
        let i = s.item in
        let v = t.session.server in
        let f = rule n standing t i in
        let ends = h.ends p.used in
        let k = rule_named n hn standing t ends.0 ends.1 i (all_at (Named v) t.items at s e h.items) in
        let l : t.session.last.0 ≤ 999998 = ltb-false _ t.session.last.0 p.left in
        record {
          roomy = roomy_step t h.roomy at s e p.waits f (rule_law n standing t i);
          rows = rw (held_applied t h.roomy.whole at f)
              (all_append RowNamed (held t) (placed t.session.rows f.added) h.rows
              (all_take RowNamed (32 - t.session.rows) (added_rows f.added) k.1));
          items = all_after (Named v) t.items t.session.last.0 at f (all_set (At (Named v)) t.items at None h.items tt) k.0;
          ends = λ w. ends;
          last = omega (arith, written_few f.outcome);
          distinct = distinct_step t h.distinct at f;
          idle = λ x. absurd (still_used t.session.stage (stage_after t.session.stage f.outcome) p.used x (rule_law n standing t i).stage);
        }

    pub sane_step : (k : ℕ) → SaneMove (step_move n standing k t)
    unfolding stepped
    sane_step k = step_either n standing k t (λ o. SaneMove) (λ o r. tt) (λ at s e p. sane_applied at s e p)

  -- ---- open, send, close

  -- an item more that names nodes, at a stage in use and between nodes
  sane_item : (g : Stage) (c d : ℕ) (i : Item) → is_unused g ≡ false → spent t ≡ false → Node c → Node d → All (At (Named d)) t.items → Named d i
      → Roomy (with_item t g c d i) → Sane (with_item t g c d i)
  sane_item g c d i u l hc hd items k roomy =
      record {
        roomy = roomy;
        rows = h.rows;
        items = all_put (Named d) t.items (next_number t) i items k;
        ends = λ e. (hc, hd);
        last = omega (arith, ltb-false 999998 t.session.last.0 l);
        distinct = distinct_item t h.distinct g c d i;
        idle = λ e. never (sym u ∙ e);
      }

  sane_opening : (c d : ℕ) → unused t ≡ true → spent t ≡ false → Node c → Node d → (c ≡ d → ⊥) → Sane (opening t c d)
  unfolding opening uses space carries active due
  sane_opening c d u l hc hd ne =
      let z : spare t.session.stage ≡ 3 = rw u in
      let i = Wire c (bare c d (Disc c)) in
      sane_item Stage.SettingUp c d i refl l hc hd
      (all_unused (Named d) t h u)
      (hc, bare_named c d (Disc c) hc hd, λ e. (hc, ne, refl, refl))
      (roomy_item t h.roomy Stage.SettingUp c d i (λ v. refl) (λ w. refl) (omega arith) (omega arith)
      (omega (arith, weigh_le active space active_space t.items)))

  pub sane_open : (n : Network) (c d : ℕ) → SaneMove (open_move n c d t)
  unfolding open_move
  sane_open n c d =
      checked_either SaneMove (λ r. tt) _
      (λ e.
      let k = both (given n c) (given n d) (not-false (given n c && given n d) e.1.0) in
      sane_opening c d (not-false (unused t) e.0) e.1.1.1.1.0 (given_node n c k.0) (given_node n d k.1) (eqb-false c d e.1.1.0))

  module _ (u : unused t ≡ false) (room : leb 12 (how_many_items is_data_item t.items) ≡ false) (l : spent t ≡ false) (tag : ℕ) where
    -- a Data from the one end to the other
    sane_data : (a b : ℕ) → Node a → Node b
        → Sane (with_item t t.session.stage t.session.client t.session.server (Out a (bare a b (Data tag))))
    unfolding uses space carries active due
    sane_data a b ha hb =
        let g = t.session.stage in
        let c = t.session.client in
        let d = t.session.server in
        let i = Out a (bare a b (Data tag)) in
        let z : spare g ≡ 0 = rw u in
        let k = leb-false 12 (how_many_items is_data_item t.items) room in
        sane_item g c d i u l (h.ends u).0 (h.ends u).1 h.items (ha, bare_named a b (Data tag) ha hb, refl, refl)
        (roomy_item t h.roomy g c d i (λ v. refl) (λ w. refl) (omega arith) (omega (arith, counted is_data_item t.items)) (omega arith))

    sane_sending : (w : Sender) → Sane (sending t w tag)
    unfolding sending
    sane_sending Client = sane_data t.session.client t.session.server (h.ends u).0 (h.ends u).1
    sane_sending Server = sane_data t.session.server t.session.client (h.ends u).1 (h.ends u).0

  pub sane_send : (w : Sender) (tag : ℕ) → SaneMove (send_move w tag t)
  unfolding send_move
  sane_send w tag =
      checked_either SaneMove (λ r. tt) _ (λ e. sane_sending e.0 e.1.0 e.1.1.0 tag w)

  pub sane_close : SaneMove (close_move t)
  unfolding close_move closing
  sane_close = checked_either SaneMove (λ r. tt) _ (λ e. sane_empty t.session.last.0 h.last)

  -- ---- drop

  sane_dropping : (e : ℕ) → unused t ≡ false → Sane (dropping e t)
  unfolding dropping
  sane_dropping e u =
      record {
        roomy = roomy_dropping t h.roomy e;
        rows = rw (held_dropping e t) (all_those RowNamed (is_other e) (held t) h.rows);
        items = h.items;
        ends = h.ends;
        last = h.last;
        distinct = record { once = h.distinct.once };
        idle = λ z. never (sym u ∙ z);
      }

  pub sane_drop : (e : ℕ) → SaneMove (drop_move e t)
  unfolding drop_move
  sane_drop e = checked_either SaneMove (λ r. tt) _ (λ k. sane_dropping e k.0)
