-- What each rule does to the weights of a set-up: the waits, the places, the Data items, the items that are neither, and the rows to
-- come; and what it begins. Assumes nothing.
use mathlib.Core.Path.{◌≡◌, sym, subst, ap}
use mathlib.Core.Bool.{Bool, true, not, ◌&&◌}
use mathlib.Core.List.{List}
use Prim.Native.Nat.{ℕ, ◌+◌, ◌-◌, ◌*◌, ◌≤◌, ◌<◌}
use native.Mathlib.Omega.{arith}
use lib.Dec.{eqb}
use lib.ListN.{length}
use borrow.Author.Tests.{not-false, eqb-true}
use Rattle.calculus.proofs.Tests.{either}
use Rattle.calculus.specs.declared.effect.Wait.{Wait}
use Rattle.calculus.specs.declared.effect.Effect.{Effect}
use Rattle.calculus.specs.declared.network.Network.{Network}
use Rattle.std.specs.Prelude.{Option, Some, None}
use Rattle.calculus.specs.declared.network.NextHop.{NextHop}
use Rattle.calculus.specs.declared.network.NextHop.TheVariants.{Exact, Default}
use Rattle.calculus.specs.declared.packet.Payload.{Payload}
use Rattle.calculus.specs.declared.packet.Payload.TheVariants.{Req, Rep, Disc, Done, Data}
use Rattle.calculus.specs.declared.packet.Packet.{Packet}
use Rattle.calculus.specs.declared.packet.Side.{Side}
use Rattle.calculus.specs.declared.packet.Side.TheVariants.{Responder, Initiator}
use Rattle.calculus.specs.declared.packet.Item.{Item}
use Rattle.calculus.specs.declared.packet.Item.TheVariants.{Wire, Out, Up, Est, Auth, Grant, Ack, Dwait, Ewait}
use Rattle.calculus.specs.declared.session.Row.{Row}
use Rattle.calculus.specs.declared.session.Session.{Session}
use Rattle.calculus.specs.declared.state.Part.{Part}
use Rattle.model.specs.Network.{is_gateway, next_hop, has_all_needed}
use Rattle.model.specs.Packet.{target, no_hops_left, fewer, is_data}
use Rattle.model.specs.Row.{held}
use Rattle.model.specs.Rules.{writes_for, discovers, last_point, is_exhausted, begin, unprotected, onward, wire_rule, created, out_rule, admitted, matched, received, up_rule, est_rule, auth_rule, grant_rule, ack_rule, rule}
use Rattle.model.specs.State.{written_count, stage_after, begun_after, added_rows}
use Rattle.model.specs.SetUp.{is_grant}
use Rattle.model.proofs.Checks.{one}
use Rattle.model.proofs.Discovers.{discovers_disc, not_exhausted}
use Rattle.model.proofs.Weights.{count, weigh_out, weigh_wait}
use Rattle.model.proofs.SetUpWeights.{waits, uses, space, carries, active, due, rows_of, begun_of, spare, packet_space, Wanted, wanted, begun_next}

-- ---- the rules

-- the effect f of an item i of the session s keeps the balance
pub record Law (s : Session) (i : Item) (f : Effect) : Type 0 where
  pub wants : Wanted i f.wait
  pub writes : written_count f.outcome ≤ 2
  pub waits : (v : Wait) → weigh_out (uses v) f.outcome + weigh_wait (waits v) f.wait ≤ uses v i + weigh_out (waits v) f.outcome
  pub places : weigh_out space f.outcome + spare (stage_after s.stage f.outcome) ≤ space i + weigh_wait space f.wait + spare s.stage
  pub tags : weigh_out carries f.outcome ≤ carries i
  pub actives : weigh_out active f.outcome ≤ active i
  pub stage : spare (stage_after s.stage f.outcome) ≤ spare s.stage
  pub begun : begun_after s.begun f.begins - 8 ≤ s.begun - 8
  -- of any establishments, those that w holds of: each that begins has 4 rows to come
  pub rows : (w : ℕ → Bool) → weigh_out (due w) f.outcome + rows_of w (added_rows f.added) + 4 * begun_of w s.begun
      ≤ due w i + 4 * begun_of w (begun_after s.begun f.begins)
  -- only a grant adds rows, and Data begins nothing
  pub adds : length (added_rows f.added) ≤ 2 * count is_grant i
  pub begins : (s.begun ≤ begun_after s.begun f.begins) × (begun_after s.begun f.begins ≤ s.begun + active i)

onward_law : (next : Option NextHop) (s : Session) (a : ℕ) (p : Packet) → Law s (Wire a p) (onward next (fewer p))
unfolding uses space carries active due
onward_law (Some (Exact next)) s a p = omega arith
onward_law (Some (Default next)) s a p = omega arith
onward_law None s a p = omega arith

-- a Disc that begins an establishment
begin_law : (s : Session) (a : ℕ) (p : Packet) → p.payload ≡ Disc (last_point p.payload) → s.begun < 8
    → Law s (Wire a p) (begin a (last_point p.payload) (s.begun + 1))
unfolding uses space carries active due
begin_law s a p x b =
    let i : active (Wire a p) ≡ 1 = ap (λ (y : Payload). one (not (is_data y) && true)) x in
    record {
      wants = tt;
      writes = omega arith;
      waits = λ v. omega arith;
      places = omega (arith, ap packet_space x);
      tags = omega arith;
      actives = omega (arith, i);
      stage = omega arith;
      begun = omega (arith, b);
      rows = λ w. omega (arith, begun_next w s.begun);
      adds = omega arith;
      begins = omega (arith, i);
    }

wire_law : (gateway : Bool) (look : ℕ → Option NextHop) (s : Session) (a : ℕ) (p : Packet) → Law s (Wire a p) (wire_rule gateway look s a p)
unfolding uses space carries active due wire_rule
wire_law gateway look s a p =
    let P = Law s (Wire a p) in
    either P (discovers gateway s.server a p.payload)
    (λ k. either P (is_exhausted s) (λ e. omega arith)
    (λ e. begin_law s a p (discovers_disc gateway s.server a p.payload k) (not_exhausted s e)))
    (λ e. either P (eqb a (target p)) (λ e. omega arith)
    (λ e. either P (unprotected gateway p) (λ e. omega arith)
    (λ e. either P (no_hops_left p) (λ e. omega arith) (λ e. onward_law (look (target p)) s a p))))

out_law : (s : Session) (rows : List Row) (a : ℕ) (p : Packet) → Law s (Out a p) (out_rule rows a p)
unfolding uses space carries active due out_rule
out_law s rows a p =
    let P = Law s (Out a p) in
    either P (created a p) (λ e. omega arith) (λ e. either P (no_hops_left p) (λ e. omega arith) (λ e. omega arith))

-- the packet with this destination and payload
abbrev carrying : Packet → ℕ → Payload → Packet
carrying p a y = record { source = p.source; destination = a; payload = y; hops = p.hops; header = p.header }

-- a packet received at its destination
received_law : (s : Session) (a : ℕ) (y : Payload) (p : Packet) → Law s (Up a (carrying p a y)) (received a p.source y)
unfolding uses space carries active due
received_law s a (Req e) p = omega arith
received_law s a (Rep e) p = omega (arith, wanted (Up a (carrying p a (Rep e))))
received_law s a (Disc q) p = omega arith
received_law s a Done p = omega arith
received_law s a (Data tag) p = omega arith

up_law : (standing : ℕ → ℕ → Bool) (s : Session) (rows : List Row) (a : ℕ) (p : Packet) → Law s (Up a p) (up_rule standing rows a p)
unfolding uses space carries active due up_rule
up_law standing s rows a p =
    let P = Law s (Up a p) in
    either P (not (admitted standing rows a p.header)) (λ e. omega arith)
    (λ e. either P (not (matched rows a p)) (λ e. omega arith)
    (λ e. either P (not (eqb p.destination a)) (λ e. omega arith)
    (λ e. subst (λ (x : ℕ). Law s (Up a (carrying p x p.payload)) (received a p.source p.payload))
    (sym (eqb-true p.destination a (not-false (eqb p.destination a) e))) (received_law s a p.payload p))))

auth_law : (enough : Bool) (s : Session) (a q e : ℕ) (side : Side) → Law s (Auth a q e side) (auth_rule enough a q e side)
unfolding uses space carries active due auth_rule
auth_law enough s a q e side = either (Law s (Auth a q e side)) enough (λ e. omega arith) (λ e. omega arith)

grant_law : (s : Session) (a q e : ℕ) (side : Side) → Law s (Grant a q e side) (grant_rule s a q e side)
unfolding uses space carries active due grant_rule
grant_law s a q e Responder = omega arith
grant_law s a q e Initiator = omega arith

ack_law : (s : Session) (a e : ℕ) → Law s (Ack a e) (ack_rule s a)
unfolding uses space carries active due ack_rule
ack_law s a e =
    let h = wanted (Ack a e) in
    either (λ (i : Item). Law s (Ack a e) (writes_for (ack_rule s a).wait i)) (eqb a s.server) (λ k. omega (arith, h)) (λ k. omega (arith, h))

pub rule_law : (n : Network) (standing : ℕ → ℕ → Bool) (t : Part) (i : Item) → Law t.session i (rule n standing t i)
unfolding uses space carries active due rule est_rule
rule_law n standing t (Wire a p) = wire_law (is_gateway n a) (next_hop n a) t.session a p
rule_law n standing t (Out a p) = out_law t.session (held t) a p
rule_law n standing t (Up a p) = up_law standing t.session (held t) a p
rule_law n standing t (Est a b e) = omega arith
rule_law n standing t (Auth a q e side) = auth_law (has_all_needed n a q) t.session a q e side
rule_law n standing t (Grant a q e side) = grant_law t.session a q e side
rule_law n standing t (Ack a e) = ack_law t.session a e
rule_law n standing t (Dwait a) = omega arith
rule_law n standing t (Ewait a e) = omega arith
