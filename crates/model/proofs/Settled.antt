-- What is settled stays so, and a count does not fall, until the session is opened anew. Assumes nothing.
use mathlib.Core.Path.{◌≡◌, refl, sym, subst, ◌∙◌}
use mathlib.Core.Bool.{true, false, ◌&&◌}
use mathlib.Core.List.{List}
use mathlib.Core.Option.{Option, none, some}
use Prim.Native.Nat.{ℕ, ◌≤◌}
use native.Mathlib.Omega.{arith}
use lib.Dec.{ltb}
use Rattle.std.specs.Prelude as std
use Rattle.std.specs.Prelude.{None}
use Rattle.calculus.proofs.Tests.{Way, is, isnt, way, both, never, either}
use Rattle.calculus.specs.Number.{within, is_session, is_item, is_establishment, is_tag}
use Rattle.calculus.specs.declared.network.Network.{Network}
use Rattle.calculus.specs.declared.packet.Slot.{Slot}
use Rattle.calculus.specs.declared.request.Sender.{Sender}
use Rattle.calculus.specs.declared.state.Part.{Part}
use Rattle.calculus.specs.declared.state.State.{State}
use Rattle.forms.specs.Text.{Form, node, route, «open», step, send, close, show, net, take_down}
use Rattle.forms.specs.Read.{read}
use Rattle.forms.specs.Request.{asked}
use Rattle.model.specs.Lists.{All}
use Rattle.model.specs.Row.{are_nodes}
use Rattle.model.specs.Rules.{rule}
use Rattle.model.specs.State.{load, found_item, applied, is_numbered}
use Rattle.model.specs.Requests.{Move, spent, next_number, stepped, step_move, data_item, sending, send_move, closing, close_move, dropping, drop_move, step_at}
use Rattle.model.specs.Calls.{Call, call, is_accepted, form_names, is_own}
use Rattle.model.specs.Termination.{is_counted, form_count, call_count, is_active, Settled, form_opens, opens}
use Rattle.model.proofs.Checks.{checked_either}
use Rattle.model.proofs.Lists.{all_set}
use Rattle.model.proofs.Parts.{Numbered}
use Rattle.model.proofs.Steps.{step_either}
use Rattle.model.proofs.Balance.{rule_law}
use Rattle.model.proofs.Sane.{At, all_at, all_put, all_after, none_items, items_none}
use Rattle.model.proofs.Tracked.{Inactive, inactive_none, written_inactive, data_inactive}
use Rattle.model.proofs.Local.{Seen, seen_move, seen_parsed, ranged_seen, local, call_own}
use Rattle.model.proofs.Replies.{call_others}
use Rattle.model.proofs.Reached.{Sound}

-- ---- a session's requests

module _ (network : Network) (t : Part) (k : Settled t) where
  abbrev Stays : Seen → Type 0
  Stays x = Settled x.part

  inactive : spent t ≡ false → All (At Inactive) t.items
  inactive l = none_items is_active t.items (k l)

  settled_step : (i : ℕ) → Stays (seen_move t (step_move network are_nodes i t))
  unfolding stepped applied
  settled_step i =
      step_either network are_nodes i t (λ o m. Stays (seen_move t m)) (λ o r. k)
      (λ at s e p l.
      let f = rule network are_nodes t s.item in
      let quiet = inactive p.left in
      let z = inactive_none s.item (all_at Inactive t.items at s e quiet) in
      items_none is_active (applied t at f).items
      (all_after Inactive t.items t.session.last.0 at f (all_set (At Inactive) t.items at None quiet tt)
      (written_inactive f.outcome (omega (arith, (rule_law network are_nodes t s.item).actives, z)))))

  settled_send : (w : Sender) (tag : ℕ) → Stays (seen_move t (send_move w tag t))
  unfolding send_move sending
  settled_send w tag =
      checked_either (λ (m : Move). Stays (seen_move t m)) (λ r. k) _
      (λ e l.
      items_none is_active (sending t w tag).items
      (all_put Inactive t.items (next_number t) (data_item t.session w tag) (inactive e.1.1.0) (data_inactive t.session w tag)))

  settled_close : Stays (seen_move t (close_move t))
  unfolding close_move closing
  settled_close = checked_either (λ (m : Move). Stays (seen_move t m)) (λ r. k) _ (λ e l. refl)

  settled_drop : (e : ℕ) → Stays (seen_move t (drop_move e t))
  unfolding drop_move dropping
  settled_drop e = checked_either (λ (m : Move). Stays (seen_move t m)) (λ r. k) _ (λ w. k)

  -- ---- a line

  -- an own line that opens nothing
  line_settled : (u : ℕ) (o : Option Form) → form_names u o ≡ true → form_opens u o ≡ false → Stays (seen_parsed network t (asked o))
  line_settled u (some (node a x has needs)) e w = never e
  line_settled u (some (route a b next)) e w = never e
  line_settled u (some («open» v c d)) e w = never (sym w ∙ e)
  line_settled u (some (step v i)) e w = ranged_seen Stays network t k (is_session v && is_item i) _ (settled_step i)
  line_settled u (some (send v x tag)) e w = ranged_seen Stays network t k (is_session v && (within 0 1 x && is_tag tag)) _ (settled_send _ tag)
  line_settled u (some (close v)) e w = ranged_seen Stays network t k (is_session v) _ settled_close
  line_settled u (some show) e w = never e
  line_settled u (some net) e w = never e
  line_settled u (some (take_down v f)) e w = ranged_seen Stays network t k (is_session v && is_establishment f) _ (settled_drop f)
  line_settled u none e w = never e

  local_settled : (u : ℕ) (c : Call) → is_own u c ≡ true → opens u c ≡ false → Stays (local network t c)
  unfolding local
  local_settled u c e w = either Stays (ltb c.size 65536) (λ s. k) (λ s. line_settled u (read c.line) e w)

form_grows : (u : ℕ) (l : List (std.Option Slot)) (n : ℕ) (o : Option Form) → form_names u o ≡ true → form_opens u o ≡ false → n ≤ form_count l n o
form_grows u l n (some (node a x has needs)) e w = never e
form_grows u l n (some (route a b next)) e w = never e
form_grows u l n (some («open» v c d)) e w = never (sym w ∙ e)
form_grows u l n (some (step v i)) e w = either (λ m. n ≤ m) (is_counted (found_item i l)) (λ k. omega arith) (λ k. omega arith)
form_grows u l n (some (send v x tag)) e w = omega arith
form_grows u l n (some (close v)) e w = omega arith
form_grows u l n (some show) e w = never e
form_grows u l n (some net) e w = never e
form_grows u l n (some (take_down v f)) e w = omega arith
form_grows u l n none e w = never e

-- ---- a call

pub call_settled : (u : ℕ) → Numbered u → (s : State) → Sound s → (c : Call) → opens u c ≡ false → Settled (load s u)
    → Settled (load (call s c).state u)
call_settled u hu s h c w k = go (way (is_own u c))
  where
    go : Way (is_own u c) → Settled (load (call s c).state u)
    go (is e) = subst (λ (x : Seen). Settled x.part) (sym (call_own s h.good u hu c e)) (local_settled s.network (load s u) k u c e w)
    go (isnt e) = rw (call_others s h.good c u hu e) k

pub count_grows : (u : ℕ) (s : State) (n : ℕ) (c : Call) → opens u c ≡ false → n ≤ call_count u s n c
count_grows u s n c w =
    either (λ m. n ≤ m) (is_own u c && is_accepted (call s c).refusal)
    (λ e. form_grows u (load s u).items n (read c.line) (both (is_own u c) (is_accepted (call s c).refusal) e).0 w)
    (λ e. omega arith)
