-- What a set-up can hold, in every state that calls reach. Assumes nothing.
use mathlib.Core.Path.{◌≡◌, refl, ap, ◌∙◌}
use mathlib.Core.Bool.{Bool, false}
use mathlib.Core.List.{List, [], ◌∷◌, ◌++◌}
use Prim.Native.Nat.{ℕ, ◌+◌, ◌≤◌, ◌<◌}
use native.Mathlib.Omega.{arith}
use lib.Seq.{take_all}
use Rattle.std.specs.Prelude.{Option, Some, None}
use Rattle.calculus.proofs.Tests.{either}
use Rattle.calculus.specs.declared.effect.Outcome.{Outcome}
use Rattle.calculus.specs.declared.effect.Outcome.TheVariants.{Wrote, WroteByDefault, WroteTwo, Lost, Denied, Opened, Delivered}
use Rattle.calculus.specs.declared.effect.Wait.{Wait}
use Rattle.calculus.specs.declared.network.Network.{Network}
use Rattle.calculus.specs.declared.packet.Item.{Item}
use Rattle.calculus.specs.declared.packet.Item.TheVariants.{Wire, Out, Up, Est, Auth, Grant, Ack, Dwait, Ewait}
use Rattle.calculus.specs.declared.packet.Slot.{Slot}
use Rattle.calculus.specs.declared.session.Row.{Row}
use Rattle.calculus.specs.declared.state.Part.{Part}
use Rattle.calculus.specs.declared.state.State.{State}
use Rattle.model.specs.Row.{held, are_nodes, users_of, stands}
use Rattle.model.specs.Rules.{rule}
use Rattle.model.specs.Item.{is_wait, is_data_item, how_many_items, slot_at}
use Rattle.model.specs.SetUp.{is_set_up_item, is_grant, is_disc_off_wire, wait_of, HoldsPacket, items_of, wait_items, FindsPlaces, Holds, SetUps}
use Rattle.model.specs.State.{fresh, load, put_item, applied}
use Rattle.model.specs.Calls.{after}
use Rattle.model.specs.Lists.{tally, All}
use Rattle.model.proofs.Weights.{count, counted, weigh_out, weigh_wait, weigh_le, weigh_sum, weigh_at, weigh_put, free_or_pending}
use Rattle.model.proofs.SetUpWeights.{uses, space, carries, due, each, wanted, pends, set_up_space, pending, grant_due}
use Rattle.model.proofs.Parts.{Numbered}
use Rattle.model.proofs.Moves.{held_applied}
use Rattle.model.proofs.Balance.{rule_law}
use Rattle.model.proofs.Nodes.{network_holds}
use Rattle.model.proofs.Roomy.{Roomy, few_rows, rows_each, step_ledger, rows_fit}
use Rattle.model.proofs.Named.{Named}
use Rattle.model.proofs.Sane.{At, unused_none, items_none, all_items}
use Rattle.model.proofs.Counted.{Good, users_most}
use Rattle.model.proofs.Replies.{numbered}
use Rattle.model.proofs.Reached.{Sound, reached}

disc_on_wire : (v : ℕ) (i : Item) → Named v i → is_disc_off_wire i ≡ false
disc_on_wire v (Wire a p) h = refl
disc_on_wire v (Out a p) h = h.2
disc_on_wire v (Up a p) h = h.2
disc_on_wire v (Est a b e) h = refl
disc_on_wire v (Auth a q e side) h = refl
disc_on_wire v (Grant a q e side) h = refl
disc_on_wire v (Ack a e) h = refl
disc_on_wire v (Dwait a) h = refl
disc_on_wire v (Ewait a e) h = refl

discs_on_wires : (v : ℕ) (l : List (Option Slot)) → All (At (Named v)) l → how_many_items is_disc_off_wire l ≡ 0
discs_on_wires v l h =
    items_none is_disc_off_wire l (all_items (Named v) (λ i. is_disc_off_wire i ≡ false) (disc_on_wire v) l h)

few_users_lem : (s : State) → Good s → (out : Bool) (a q : ℕ) → users_of s.users out a q ≤ 256
unfolding users_of
few_users_lem s g out a q = either (λ (n : ℕ). n ≤ 256) (are_nodes a q) (λ e. rw e at (users_most s g out a q e)) (λ e. omega arith)

-- ---- all finds a place

weigh_items : (g : Item → Bool) (o : Outcome) → weigh_out (count g) o ≡ tally g (items_of o)
weigh_items g (Wrote i) = omega arith
weigh_items g (WroteByDefault i) = omega arith
weigh_items g (WroteTwo i j) = omega arith
weigh_items g (Lost k) = refl
weigh_items g Denied = refl
weigh_items g Opened = refl
weigh_items g (Delivered tag) = refl

weigh_waits : (g : Item → Bool) (w : Option Wait) → weigh_wait (count g) w ≡ tally g (wait_items w)
weigh_waits g None = refl
weigh_waits g (Some v) = omega arith

module _ (t : Part) (h : Roomy t) where
  put_comes : (n : ℕ) (i : Item) (g : Item → Bool)
      → how_many_items g (put_item t.items n i) ≡ how_many_items g t.items + tally g (i ∷ [])
  put_comes n i g =
      omega (
        arith,
        counted g (put_item t.items n i),
        counted g t.items,
        weigh_put (count g) t.items n i (omega (arith, pending t.items, h.places, h.tags, h.whole.items)),
      )

  pub step_finds_places : (n : Network) (standing : ℕ → ℕ → Bool) (at : ℕ) (s : Slot) → slot_at t.items at ≡ Some s → is_wait s.item ≡ false
      → FindsPlaces t at s.item (rule n standing t s.item)
  step_finds_places n standing at s e w =
      let f = rule n standing t s.item in
      let law = rule_law n standing t s.item in
      record {
        rows = held_applied t h.whole at f ∙ ap (λ (rs : List Row). held t ++ rs) (take_all _ _ (rows_fit t h at s e w f law));
        items = λ g.
            omega (
              arith,
              counted g (applied t at f).items,
              counted g t.items,
              weigh_items g f.outcome,
              weigh_waits g f.wait,
              step_ledger t h at s e w f law (count g),
            );
      }

-- ---- what is promised

named_packet : (v : ℕ) (i : Item) → Named v i → HoldsPacket i
named_packet v (Wire a p) h = h.1.2
named_packet v (Out a p) h = (h.1.2, h.3)
named_packet v (Up a p) h = h.1.2
named_packet v (Est a b e) h = tt
named_packet v (Auth a q e side) h = tt
named_packet v (Grant a q e side) h = tt
named_packet v (Ack a e) h = tt
named_packet v (Dwait a) h = tt
named_packet v (Ewait a e) h = tt

holds : (s : State) → Sound s → (u : ℕ) → Numbered u → Holds s (load s u)
unfolding uses carries
holds s sound u hu =
    let t = load s u in
    let l = t.items in
    let h = sound.sane u hu in
    let k = h.roomy in
    record {
      set_up = omega (arith, counted is_set_up_item l, weigh_le (count is_set_up_item) space set_up_space l);
      data_items = omega (arith, counted is_data_item l);
      item_places = k.whole.items;
      free_place = omega (arith, pending l, free_or_pending l, k.whole.items, k.places, k.tags);
      written = put_comes t k;
      stepped = step_finds_places t k s.network (stands s.users false);
      row_places = k.whole.rows;
      rows = omega (
        arith,
        counted is_grant l,
        weigh_sum (count is_grant) (count is_grant) l,
        weigh_le (λ i. count is_grant i + count is_grant i) (due each) grant_due l,
        few_rows t k,
        k.begun,
      );
      establishments = rows_each t k;
      row_nodes = h.rows;
      begun = k.begun;
      packets = all_items (Named t.session.server) HoldsPacket (named_packet t.session.server) l h.items;
      waits = λ at x e.
          let i = x.item in
          pends i l (λ v. omega (arith, weigh_at (uses v) l at x e, k.waits v)) (wait_of i) (wanted i);
      discs = discs_on_wires t.session.server l h.items;
      last = h.last;
      numbers = h.distinct.once;
      idle = λ e. (unused_none t k e, (h.idle e).0, (h.idle e).1);
      users = sound.good.counted;
      few_users = few_users_lem s sound.good;
    }

pub set_ups : SetUps
set_ups =
    record {
      network = λ cs. network_holds (after fresh cs).network (reached cs).consistent;
      holds = λ cs u e. holds (after fresh cs) (reached cs) u (numbered u e);
    }
