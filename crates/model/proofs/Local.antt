-- What a session's call answers and leaves of its part is a function of the network, its part and the call. Assumes nothing.
use mathlib.Core.Path.{◌≡◌, refl, sym, ap, ◌∙◌}
use mathlib.Core.Bool.{Bool, true, false, cond, ◌&&◌, ◌||◌}
use mathlib.Core.List.{[]}
use mathlib.Core.Option.{Option, none, some}
use Prim.Native.Nat.{ℕ}
use native.Mathlib.Omega.{arith}
use lib.Dec.{ltb}
use borrow.Author.Tests.{lt-ltb, eqb-true}
use Rattle.std.specs.Prelude as std
use Rattle.std.specs.Prelude.{Ok, Err, Some, None}
use Rattle.calculus.proofs.Tests.{never}
use Rattle.calculus.specs.declared.answer.Refusal.{Refusal}
use Rattle.calculus.specs.declared.answer.Refusal.TheVariants.{Range, Short}
use Rattle.calculus.specs.declared.network.Network.{Network}
use Rattle.calculus.specs.declared.packet.Header.{Header}
use Rattle.calculus.specs.declared.packet.Item.{Item}
use Rattle.calculus.specs.declared.packet.Item.TheVariants.{Wire, Out, Up, Est, Auth, Grant, Ack, Dwait, Ewait}
use Rattle.calculus.specs.declared.packet.Slot.{Slot}
use Rattle.calculus.specs.declared.request.Request as request
use Rattle.calculus.specs.declared.request.Request.TheVariants.{Node, Route, Open, Step, Send, Close, Show, Net, Drop}
use Rattle.calculus.specs.declared.state.Part.{Part}
use Rattle.calculus.specs.declared.state.State.{State}
use Rattle.forms.specs.Text.{Form}
use Rattle.forms.specs.Read.{read}
use Rattle.forms.specs.Request.{in_range, asked, Asked}
use Rattle.model.specs.Row.{held, admits, are_nodes, users_of, stands}
use Rattle.model.specs.Rules.{admitted, up_rule, rule}
use Rattle.model.specs.State.{load}
use Rattle.model.specs.Requests.{Move, step_at, step_move, performed}
use Rattle.model.specs.Calls.{Lines, answer, report, Reply, Call, call, answered, replied_to, refusal_in, one_answer, short, form_names, is_own}
use Rattle.model.proofs.Parts.{Numbered, load_whole}
use Rattle.model.proofs.Users.{admits_some}
use Rattle.model.proofs.Moves.{FairMove, fair_open, fair_step, fair_send, fair_close, fair_drop}
use Rattle.model.proofs.Asked.{session_in, own_move, own_cases, move_in, requested_own, not_own, Meaning, refuses, gives_node, gives_route, of_session, shows, gives_back, meaning}
use Rattle.model.proofs.Counted.{Good, users_least, stored_own, stored_others, stored_good}

-- ---- what stands

and_same : (x y b : Bool) → (b ≡ true → x ≡ y) → (x && b) ≡ (y && b)
and_same true true b h = refl
and_same true false true h = h refl
and_same true false false h = refl
and_same false true true h = h refl
and_same false true false h = refl
and_same false false b h = refl

-- where an in row of this part tells that its association stands, no rule reads what stands
module _ (n : Network) (standing : ℕ → ℕ → Bool) (t : Part) (h : (a q : ℕ) → admits (held t) a q ≡ true → standing a q ≡ are_nodes a q) where
  admitted_same : (a : ℕ) (x : std.Option Header) → admitted standing (held t) a x ≡ admitted are_nodes (held t) a x
  admitted_same a None = refl
  admitted_same a (Some x) = let q = x.from in and_same (standing a q) (are_nodes a q) (admits (held t) a q) (h a q)

  rule_same : (i : Item) → rule n standing t i ≡ rule n are_nodes t i
  unfolding rule up_rule
  rule_same (Wire a p) = refl
  rule_same (Out a p) = refl
  rule_same (Up a p) = rw (admitted_same a p.header)
  rule_same (Est a b e) = refl
  rule_same (Auth a q e s) = refl
  rule_same (Grant a q e s) = refl
  rule_same (Ack a e) = refl
  rule_same (Dwait a) = refl
  rule_same (Ewait a e) = refl

  step_same : (o : std.Option (ℕ × Slot)) → step_at n standing t o ≡ step_at n are_nodes t o
  unfolding step_at
  step_same None = refl
  step_same (Some (at, s)) = simp rule_same

  move_same : (q : request.Request) → own_move n standing q t ≡ own_move n are_nodes q t
  unfolding step_move
  move_same (Node a k has needs) = refl
  move_same (Route a b next) = refl
  move_same (Open u c d) = refl
  move_same (Step u k) = step_same _
  move_same (Send u w tag) = refl
  move_same (Close u) = refl
  move_same Show = refl
  move_same Net = refl
  move_same (Drop u e) = refl

-- the association of an in row stands
in_row_stands : (s : State) → Good s → (u : ℕ) → Numbered u → (a q : ℕ) → admits (held (load s u)) a q ≡ true
    → stands s.users false a q ≡ are_nodes a q
unfolding users_of
in_row_stands s g u hu a q e = go (are_nodes a q) refl
  where
    go : (b : Bool) → are_nodes a q ≡ b → stands s.users false a q ≡ b
    go true h = lt-ltb 0 (users_of s.users false a q) (omega (arith, admits_some a q (held (load s u)) e, users_least s g u hu false a q h))
    go false h = rw h

pub fair_own : (s : State) → Good s → (u : ℕ) → Numbered u → (q : request.Request) → FairMove (load s u) (move_in s u q)
fair_own s g u hu q =
    let t = load s u in
    let h = load_whole s g.sized u hu in
    own_cases (FairMove t) s.network (stands s.users false) q t tt (fair_open t h _) (fair_step t h _ _) (fair_send t h) (fair_close t h) (fair_drop t h)

-- ---- a session's own reply

-- what the session sees of a reply: its part after the call, the lines, the refusal
pub record Seen : Type 0 where
  pub part : Part
  pub lines : Lines
  pub refusal : Option Refusal

abbrev pub seen : ℕ → Reply → Seen
seen u r = record { part = load r.state u; lines = r.lines; refusal = r.refusal }

abbrev pub seen_move : Part → Move → Seen
seen_move t (Err r) = record { part = t; lines = answer (Err r); refusal = some r }
seen_move t (Ok m) = record { part = m.part; lines = answer (Ok m.answer); refusal = none }

abbrev pub seen_parsed : Network → Part → Asked → Seen
seen_parsed n t (Ok q) = seen_move t (own_move n are_nodes q t)
seen_parsed n t (Err r) = seen_move t (Err r)

-- what holds of a refusal, and of a request's move, holds of a line that asks for it, its numbers in range or not
pub ranged_seen : (P : Seen → Type 0) (n : Network) (t : Part) → P (seen_move t (Err Range)) → (ok : Bool) (q : request.Request)
    → P (seen_move t (own_move n are_nodes q t)) → P (seen_parsed n t (in_range ok q))
ranged_seen P n t r true q h = h
ranged_seen P n t r false q h = r

-- the call by itself: it reads the network and the session's part, and nothing else
unfoldable pub local : Network → Part → Call → Seen
local n t c =
    cond (ltb c.size 65536) (record { part = t; lines = report []; refusal = some Short })
    (seen_parsed n t (asked (read c.line)))

module _ (s : State) (g : Good s) (u : ℕ) (hu : Numbered u) where
  pub performed_own : (m : Move) → FairMove (load s u) m → seen u (one_answer (performed s u m)) ≡ seen_move (load s u) m
  unfolding performed
  performed_own (Err r) f = refl
  performed_own (Ok m) f = rw (stored_own s g.sized u hu m.part f.whole m.change)

  pub performed_others : (m : Move) → FairMove (load s u) m → (v : ℕ) → Numbered v → (v ≡ u → ⊥) → load (performed s u m).state v ≡ load s v
  unfolding performed
  performed_others (Err r) f v hv ne = refl
  performed_others (Ok m) f v hv ne = stored_others s g.sized u hu m.part f.whole m.change v hv ne

  pub performed_good : (m : Move) → FairMove (load s u) m → Good (performed s u m).state
  unfolding performed
  performed_good (Err r) f = g
  performed_good (Ok m) f = stored_good s g u hu m.part m.change f

  own_seen : (q : request.Request) → seen u (one_answer (performed s u (move_in s u q))) ≡ seen_move (load s u) (own_move s.network are_nodes q (load s u))
  own_seen q =
      performed_own (move_in s u q) (fair_own s g u hu q)
      ∙ ap (seen_move (load s u)) (move_same s.network (stands s.users false) (load s u) (in_row_stands s g u hu) q)

  -- the reply to what is u's own
  asked_seen : (o : Option Form) → form_names u o ≡ true → (r : Asked) → Meaning o r
      → seen u (replied_to s r) ≡ seen_parsed s.network (load s u) r
  asked_seen o e r (refuses x w) = refl
  asked_seen o e r (gives_node a k has needs i j n) = never (sym (not_own u o n) ∙ e)
  asked_seen o e r (gives_route a b next n) = never (sym (not_own u o n) ∙ e)
  asked_seen o e r (of_session q i h) =
      let w : session_in q ≡ u = eqb-true (session_in q) u (sym (h u) ∙ e) in
      ap (seen u) (requested_own s q i ∙ ap (λ (v : ℕ). one_answer (performed s v (move_in s v q))) w) ∙ own_seen q
  asked_seen o e r (shows h) = never (sym (h u) ∙ e)
  asked_seen o e r (gives_back h) = never (sym (h u) ∙ e)

  pub call_own : (c : Call) → is_own u c ≡ true → seen u (call s c) ≡ local s.network (load s u) c
  unfolding answered local
  call_own c e = go (ltb c.size 65536)
    where
      go : (b : Bool) → seen u (cond b (short s) (replied_to s (asked (read c.line))))
          ≡ cond b (seen u (short s)) (seen_parsed s.network (load s u) (asked (read c.line)))
      go true = refl
      go false = asked_seen (read c.line) e (asked (read c.line)) (meaning (read c.line))
