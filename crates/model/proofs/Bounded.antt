-- A session's count stays within the ceiling, over its requests and over lists of calls. Assumes nothing.
use mathlib.Core.Path.{◌≡◌, refl, sym, subst, ◌∙◌}
use mathlib.Core.Bool.{true, false, cond, ◌&&◌}
use mathlib.Core.List.{List, [], ◌∷◌}
use mathlib.Core.Option.{Option, none, some}
use Prim.Native.Nat.{ℕ, ◌+◌, ◌≤◌}
use native.Mathlib.Omega.{arith}
use lib.Dec.{ltb}
use borrow.Author.Tests.{eqb-false, not-false}
use Rattle.calculus.proofs.Tests.{Way, is, isnt, way, never, neither, not_so, either}
use Rattle.calculus.specs.Number.{within, is_node, is_destination, is_session, is_item, is_establishment, is_tag}
use Rattle.calculus.specs.declared.network.Network.{Network}
use Rattle.calculus.specs.declared.packet.Payload.TheVariants.{Disc}
use Rattle.calculus.specs.declared.packet.Item.TheVariants.{Wire}
use Rattle.calculus.specs.declared.request.Sender.{Sender}
use Rattle.calculus.specs.declared.state.Part.{Part}
use Rattle.calculus.specs.declared.state.State.{State}
use Rattle.forms.specs.Text.{Form, node, route, «open», step, send, close, show, net, take_down}
use Rattle.forms.specs.Read.{read}
use Rattle.forms.specs.Request.{rising, asked, Asked}
use Rattle.model.specs.Network.{is_gateway}
use Rattle.model.specs.Packet.{hop_limit, bare}
use Rattle.model.specs.Row.{held, is_other, are_nodes}
use Rattle.model.specs.Rules.{rule}
use Rattle.model.specs.State.{fresh, load, found_item, is_numbered}
use Rattle.model.specs.Requests.{Move, unused, next_number, opening, open_move, stepped, step_move, sending, send_move, closing, close_move, dropping, drop_move, step_at}
use Rattle.model.specs.Calls.{Call, call, is_accepted, after, is_own, gives_network}
use Rattle.model.specs.Termination.{ceiling, is_counted, form_count, call_count, set_up_steps}
use Rattle.model.proofs.Checks.{checked_either}
use Rattle.model.proofs.Lists.{all_those}
use Rattle.model.proofs.Steps.{step_either}
use Rattle.model.proofs.Parts.{Numbered}
use Rattle.model.proofs.Moves.{held_dropping}
use Rattle.model.proofs.Asked.{not_own}
use Rattle.model.proofs.Sane.{Sane, all_put, all_unused, sane_empty}
use Rattle.model.proofs.Points.{points, points_next}
use Rattle.model.proofs.Underway.{Ends, Underway, discovering}
use Rattle.model.proofs.Tracked.{Tracks, Tracked, data_inactive, step_tracked}
use Rattle.model.proofs.Local.{Seen, seen_move, seen_parsed, ranged_seen, local, call_own}
use Rattle.model.proofs.Replies.{call_cases, call_others, call_network, performed_network}
use Rattle.model.proofs.Reached.{Sound, call_sound, fresh_sound}

-- ---- a session's requests

-- an unused session has no rows, and no item that is tracked
unused_tracked : (network : Network) (t : Part) → Sane t → unused t ≡ true → (n : ℕ) → n ≤ ceiling → Tracked network t n
unused_tracked network t h u n few =
    record { few = few; items = all_unused (Tracks network _ _ _ n) t h u; rows = rw (h.idle u).0 tt }

-- the part that is seen has the count m, or n where the call is refused
abbrev Counts : Network → ℕ → ℕ → Seen → Type 0
Counts network n m x = Tracked network x.part (cond (is_accepted x.refusal) m n)

module _ (network : Network) (t : Part) (h : Sane t) (n : ℕ) (k : Tracked network t n) where
  counts_step : (i : ℕ) → Counts network n (cond (is_counted (found_item i t.items)) (n + 1) n) (seen_move t (step_move network are_nodes i t))
  unfolding stepped
  counts_step i =
      step_either network are_nodes i t (λ o m. Counts network n (cond (is_counted o) (n + 1) n) (seen_move t m)) (λ o r. k)
      (λ at s e p. step_tracked network t h n k at s e p.waits)

  -- the first Disc is on its way to the first point
  tracked_opening : (c d : ℕ) → unused t ≡ true → Ends network c d → Tracked network (opening t c d) 0
  unfolding opening points
  tracked_opening c d u o =
      let i = h.idle u in
      let P = Tracks network c d t.session.begun 0 in
      let first : Underway network c d 0 0 (Wire c (bare c d (Disc c))) =
      discovering c hop_limit
      (record {
        between = record { server = λ i m. absurd (omega arith); client = λ i l m. absurd (omega arith) };
        before = o.apart;
        few = omega arith;
        arrives = sym (points_next network c d 0 1 refl);
        leaves = omega arith;
      }) in
      record {
        few = omega arith;
        items = all_put P t.items (next_number t) (Wire c (bare c d (Disc c))) (all_unused P t h u) (λ e. (o, rw i.1 first));
        rows = rw i.0 tt;
      }

  counts_open : (c d : ℕ) → Counts network n 0 (seen_move t (open_move network c d t))
  unfolding open_move
  counts_open c d =
      checked_either (λ (m : Move). Counts network n 0 (seen_move t m)) (λ r. k) _
      (λ e.
      tracked_opening c d (not-false (unused t) e.0)
      (record { no_gateway = (neither (is_gateway network c) (is_gateway network d) e.1.1.1.0).0; apart = eqb-false c d e.1.1.0 }))

  counts_send : (w : Sender) (tag : ℕ) → Counts network n n (seen_move t (send_move w tag t))
  unfolding send_move sending
  counts_send w tag =
      checked_either (λ (m : Move). Counts network n n (seen_move t m)) (λ r. k) _
      (λ e.
      record {
        few = k.few;
        items = all_put _ t.items (next_number t) _ k.items (λ o. never (sym (data_inactive t.session w tag) ∙ o));
        rows = k.rows;
      })

  counts_close : Counts network n n (seen_move t (close_move t))
  unfolding close_move closing
  counts_close =
      checked_either (λ (m : Move). Counts network n n (seen_move t m)) (λ r. k) _
      (λ e. unused_tracked network _ (sane_empty t.session.last.0 h.last) refl n k.few)

  -- items and rows are apart, so that rows may go
  counts_drop : (e : ℕ) → Counts network n n (seen_move t (drop_move e t))
  unfolding drop_move dropping
  counts_drop e =
      checked_either (λ (m : Move). Counts network n n (seen_move t m)) (λ r. k) _
      (λ w. record { few = k.few; items = k.items; rows = rw (held_dropping e t) (all_those _ (is_other e) (held t) k.rows) })

  -- ---- a line

  counts_line : (o : Option Form) → Counts network n (form_count t.items n o) (seen_parsed network t (asked o))
  counts_line (some (node a x has needs)) =
      either (λ (r : Asked). Counts network n n (seen_parsed network t r)) (is_node a && (rising 0 has && rising 0 needs)) (λ e. k) (λ e. k)
  counts_line (some (route a b next)) = ranged_seen (Counts network n n) network t k (is_node a && (is_destination b && is_node next)) _ k
  counts_line (some («open» u c d)) = ranged_seen (Counts network n 0) network t k (is_session u && (is_node c && is_node d)) _ (counts_open c d)
  counts_line (some (step u i)) = ranged_seen (Counts network n _) network t k (is_session u && is_item i) _ (counts_step i)
  counts_line (some (send u w tag)) = ranged_seen (Counts network n n) network t k (is_session u && (within 0 1 w && is_tag tag)) _ (counts_send _ tag)
  counts_line (some (close u)) = ranged_seen (Counts network n n) network t k (is_session u) _ counts_close
  counts_line (some show) = k
  counts_line (some net) = k
  counts_line (some (take_down u e)) = ranged_seen (Counts network n n) network t k (is_session u && is_establishment e) _ (counts_drop e)
  counts_line none = k

  counts_local : (c : Call) → Counts network n (form_count t.items n (read c.line)) (local network t c)
  unfolding local
  counts_local c = either (Counts network n (form_count t.items n (read c.line))) (ltb c.size 65536) (λ e. k) (λ e. counts_line (read c.line))

-- ---- calls

own_gives_nothing : (u : ℕ) (c : Call) → is_own u c ≡ true → gives_network c ≡ false
own_gives_nothing u c e = not_so (gives_network c) (λ w. never (sym (not_own u (read c.line) w) ∙ e))

-- a state that calls reach, with session u's count
pub record Follows (u : ℕ) (s : State) (n : ℕ) : Type 0 where
  pub sound : Sound s
  pub tracked : Tracked s.network (load s u) n

module _ (u : ℕ) (hu : Numbered u) where
  call_tracked : (s : State) (n : ℕ) → Follows u s n → (c : Call) → Tracked (call s c).state.network (load (call s c).state u) (call_count u s n c)
  call_tracked s n h c = go (way (is_own u c))
    where
      k : Sound s
      k = h.sound

      go : Way (is_own u c) → Tracked (call s c).state.network (load (call s c).state u) (call_count u s n c)
      go (is e) =
          rw (e, call_network s c (own_gives_nothing u c e))
          (subst (Counts s.network n (form_count (load s u).items n (read c.line)))
          (sym (call_own s k.good u hu c e)) (counts_local s.network (load s u) (k.sane u hu) n h.tracked c))
      go (isnt e) =
          rw (e, call_others s k.good c u hu e)
          (call_cases (λ (x : State). Tracked x.network (load s u) n) s c h.tracked
          (λ w o network g. unused_tracked network (load s u) (k.sane u hu) (k.early u hu o) n h.tracked.few)
          (λ q i w. rw (performed_network s _ _) h.tracked))

  pub call_follows : (s : State) (n : ℕ) → Follows u s n → (c : Call) → Follows u (call s c).state (call_count u s n c)
  call_follows s n h c = record { sound = call_sound s h.sound c; tracked = call_tracked s n h c }

  pub calls_follow : (cs : List Call) (s : State) (n : ℕ) → Follows u s n → Follows u (after s cs) (set_up_steps u s n cs)
  unfolding after set_up_steps
  calls_follow [] s n h = h
  calls_follow (c ∷ cs) s n h = calls_follow cs (call s c).state (call_count u s n c) (call_follows s n h c)

  pub fresh_follows : Follows u fresh 0
  fresh_follows =
      record { sound = fresh_sound; tracked = unused_tracked _ (load fresh u) (fresh_sound.sane u hu) (fresh_sound.early u hu refl) 0 (omega arith) }
