-- Every rule writes items and rows that name nodes only, headers aside, no Disc but on a wire, no count over 32, and no header at out.
-- Assumes nothing.
use mathlib.Core.Path.{◌≡◌, refl, sym, ap, ◌∙◌}
use mathlib.Core.Bool.{Bool, true, false, cond, not}
use mathlib.Core.List.{List}
use Prim.Native.Nat.{ℕ, ◌≤◌}
use native.Mathlib.Omega.{arith}
use lib.Dec.{eqb}
use borrow.Author.Tests.{eqb-true, eqb-false}
use Rattle.std.specs.Prelude.{Option, Some, None, is_none, option_map, unwrap_or}
use Rattle.calculus.proofs.Tests.{never, either}
use Rattle.calculus.specs.declared.effect.Outcome.{Outcome}
use Rattle.calculus.specs.declared.effect.Outcome.TheVariants.{Wrote, WroteByDefault, WroteTwo, Lost, Denied, Opened, Delivered}
use Rattle.calculus.specs.declared.effect.Effect.{Effect}
use Rattle.calculus.specs.declared.network.Network.{Network}
use Rattle.std.specs.Prelude.{Option, Some, None}
use Rattle.calculus.specs.declared.network.NextHop.{NextHop}
use Rattle.calculus.specs.declared.network.NextHop.TheVariants.{Exact, Default}
use Rattle.calculus.specs.declared.packet.Payload.{Payload}
use Rattle.calculus.specs.declared.packet.Payload.TheVariants.{Req, Rep, Disc, Done, Data}
use Rattle.calculus.specs.declared.packet.Header.{Header}
use Rattle.calculus.specs.declared.packet.Packet.{Packet}
use Rattle.calculus.specs.declared.packet.Side.{Side}
use Rattle.calculus.specs.declared.packet.Side.TheVariants.{Responder, Initiator}
use Rattle.calculus.specs.declared.packet.Item.{Item}
use Rattle.calculus.specs.declared.packet.Item.TheVariants.{Wire, Out, Up, Est, Auth, Grant, Ack, Dwait, Ewait}
use Rattle.calculus.specs.declared.session.Peers.{Peers}
use Rattle.calculus.specs.declared.session.Row.{Row}
use Rattle.calculus.specs.declared.session.Session.{Session}
use Rattle.calculus.specs.declared.state.Part.{Part}
use Rattle.model.specs.Network.{is_gateway, next_hop, has_all_needed}
use Rattle.model.specs.Packet.{hop_limit, bare, target, no_hops_left, shorter, fewer}
use Rattle.model.specs.Row.{held, newest, are_nodes}
use Rattle.model.specs.Rules.{discovers, last_point, is_exhausted, unprotected, onward, wire_rule, header_to, sent, created, out_rule, admitted, matched, received, up_rule, est_rule, auth_rule, grant_rule, ack_rule, rule}
use Rattle.model.specs.State.{added_rows}
use Rattle.model.specs.SetUp.{is_disc, FewOuter, FewHops, LeadsToGiven}
use Rattle.model.specs.Lists.{All}
use Rattle.model.specs.GivenBack.{Consistent}
use Rattle.model.proofs.Places.{are_nodes_lem}
use Rattle.model.proofs.Discovers.{discovers_disc, server_discovers}
use Rattle.model.proofs.Nodes.{Node, given_node, hop_given}

-- ---- what an item may name, v being the server

abbrev PacketNamed : Packet → Type 0
PacketNamed p = Node p.source × Node p.destination × FewHops p

-- on a wire a Disc is bare, goes to the server, and its last point is a node before that
abbrev DiscNamed : ℕ → Payload → ℕ → Option Header → Type 0
DiscNamed v y d h = is_disc y ≡ true → Node (last_point y) × (last_point y ≡ v → ⊥) × (d ≡ v) × (is_none h ≡ true)

abbrev NoDisc : Payload → Type 0
NoDisc y = is_disc y ≡ false

abbrev pub Named : ℕ → Item → Type 0
Named v (Wire a p) = Node a × PacketNamed p × DiscNamed v p.payload p.destination p.header
Named v (Out a p) = Node a × PacketNamed p × NoDisc p.payload × (is_none p.header ≡ true)
Named v (Up a p) = Node a × PacketNamed p × NoDisc p.payload
Named v (Est a b e) = Node a × Node b
Named v (Auth a q e side) = Node a × Node q
Named v (Grant a q e side) = Node a × Node q
Named v (Ack a e) = Node a
Named v (Dwait a) = Unit
Named v (Ewait a e) = Unit

abbrev pub RowNamed : Row → Type 0
RowNamed r = are_nodes r.node r.peers.first ≡ true

-- of each item written
abbrev pub Written : (Item → Type 0) → Outcome → Type 0
Written P (Wrote i) = P i
Written P (WroteByDefault i) = P i
Written P (WroteTwo i j) = P i × P j
Written P (Lost k) = Unit
Written P Denied = Unit
Written P Opened = Unit
Written P (Delivered tag) = Unit

abbrev EffectNamed : ℕ → Effect → Type 0
EffectNamed v f = Written (Named v) f.outcome × All RowNamed (added_rows f.added)

-- ---- the rules

-- no Disc reaches up: at the server it is discovered
arrives : (v : ℕ) (gateway : Bool) (a : ℕ) (y : Payload) (d : ℕ) (h : Option Header) → discovers gateway v a y ≡ false → DiscNamed v y d h
    → a ≡ unwrap_or (option_map (λ x. x.to) h) d → NoDisc y
arrives v gateway a (Req e) d h k o t = refl
arrives v gateway a (Rep e) d h k o t = refl
arrives v gateway a (Disc p) d (Some h) k o t = never (o refl).3
arrives v gateway a (Disc p) d None k o t =
    let x = o refl in
    let e : a ≡ v = t ∙ x.2 in
    sym (server_discovers gateway v a p (λ w. x.1 (sym w ∙ e)) e) ∙ k
arrives v gateway a Done d h k o t = refl
arrives v gateway a (Data tag) d h k o t = refl

few_outer : (h : Option Header) → FewOuter h → FewOuter (option_map shorter h)
few_outer None o = tt
few_outer (Some h) o = omega (arith, o)

fewer_named : (p : Packet) → PacketNamed p → PacketNamed (fewer p)
fewer_named p o =
    let few = o.2.0 in
    (o.0, o.1, (either (λ (x : ℕ). x ≤ hop_limit) (is_none p.header) (λ e. omega (arith, few)) (λ e. few), few_outer p.header o.2.1))

-- a packet under no header is bare after a hop too
fewer_bare : (h : Option Header) → is_none h ≡ true → is_none (option_map shorter h) ≡ true
fewer_bare None e = refl
fewer_bare (Some h) e = never e

onward_named : (n : Network) (v : ℕ) (next : Option NextHop) (a : ℕ) (p : Packet) → LeadsToGiven n next → Named v (Wire a p)
    → EffectNamed v (onward next p)
onward_named n v (Some (Exact next)) a p k o = ((given_node n next k, o.1, o.2), tt)
onward_named n v (Some (Default next)) a p k o = ((given_node n next k, o.1, o.2), tt)
onward_named n v None a p k o = (tt, tt)

wire_named : (n : Network) (s : Session) (a : ℕ) (p : Packet) → LeadsToGiven n (next_hop n a (target p)) → Named s.server (Wire a p)
    → EffectNamed s.server (wire_rule (is_gateway n a) (next_hop n a) s a p)
unfolding wire_rule
wire_named n s a p k o =
    let gateway = is_gateway n a in
    let v = s.server in
    let P = EffectNamed v in
    either P (discovers gateway v a p.payload)
    (λ e. either P (is_exhausted s) (λ e. (tt, tt))
    (λ w. ((tt, (o.0, (o.2 (ap is_disc (discovers_disc gateway v a p.payload e))).0)), tt)))
    (λ e. either P (eqb a (target p))
    (λ w. ((o.0, o.1, arrives v gateway a p.payload p.destination p.header e o.2 (eqb-true a (target p) w)), tt))
    (λ e. either P (unprotected gateway p) (λ e. (tt, tt))
    (λ e. either P (no_hops_left p) (λ e. (tt, tt)) (λ e. onward_named n v (next_hop n a (target p)) a (fewer p) k (o.0, fewer_named p o.1, λ w. let x = o.2 w in (x.0, x.1, x.2, fewer_bare p.header x.3))))))

header_few : (a : ℕ) (x : Option Peers) → FewOuter (header_to a x)
header_few a None = tt
header_few a (Some x) = omega arith

sent_named : (v : ℕ) (rows : List Row) (a : ℕ) (p : Packet) → Node a → PacketNamed p → NoDisc p.payload → EffectNamed v (sent rows a p)
sent_named v rows a p h k d = ((h, (k.0, k.1, (k.2.0, header_few a (newest rows true a p))), λ e. never (sym d ∙ e)), tt)

out_named : (v : ℕ) (rows : List Row) (a : ℕ) (p : Packet) → Named v (Out a p) → EffectNamed v (out_rule rows a p)
unfolding out_rule
out_named v rows a p o =
    let P = EffectNamed v in
    either P (created a p) (λ e. sent_named v rows a p o.0 o.1 o.2)
    (λ e. either P (no_hops_left p) (λ e. (tt, tt)) (λ e. sent_named v rows a (fewer p) o.0 (fewer_named p o.1) o.2))

received_named : (v a b : ℕ) (y : Payload) → Node a → Node b → EffectNamed v (received a b y)
received_named v a b (Req e) h k = ((h, k), tt)
received_named v a b (Rep e) h k = ((h, k), tt)
received_named v a b (Disc p) h k = (tt, tt)
received_named v a b Done h k = (tt, tt)
received_named v a b (Data tag) h k = (tt, tt)

up_named : (v : ℕ) (standing : ℕ → ℕ → Bool) (rows : List Row) (a : ℕ) (p : Packet) → Named v (Up a p) → EffectNamed v (up_rule standing rows a p)
unfolding up_rule
up_named v standing rows a p o =
    let P = EffectNamed v in
    either P (not (admitted standing rows a p.header)) (λ e. (tt, tt))
    (λ e. either P (not (matched rows a p)) (λ e. (tt, tt))
    (λ e. either P (not (eqb p.destination a)) (λ e. ((o.0, (o.1.0, o.1.1, (o.1.2.0, tt)), o.2, refl), tt))
    (λ e. received_named v a p.source p.payload o.0 o.1.0)))

-- a new packet
pub bare_named : (a b : ℕ) (y : Payload) → Node a → Node b → PacketNamed (bare a b y)
bare_named a b y h k = (h, k, (omega arith, tt))

grant_named : (v : ℕ) (s : Session) (a q e : ℕ) (side : Side) → Node a → Node q → EffectNamed v (grant_rule s a q e side)
unfolding grant_rule
grant_named v s a q e Responder h k = let n = are_nodes_lem a q h k in ((h, bare_named a q (Rep e) h k, refl, refl), (n, (n, tt)))
grant_named v s a q e Initiator h k = let n = are_nodes_lem a q h k in (h, (n, (n, tt)))

ack_named : (s : Session) (a : ℕ) → Node s.client → Node s.server → Node a → EffectNamed s.server (ack_rule s a)
unfolding ack_rule
ack_named s a c d h = (
  either (Named s.server) (eqb a s.server) (λ e. (h, bare_named s.server s.client Done d c, refl, refl))
      (λ e. (h, (c, d, (omega arith, tt)), λ k. (h, eqb-false a s.server e, refl, refl))),
  tt,
)

module _ (n : Network) (hn : Consistent n) (standing : ℕ → ℕ → Bool) (t : Part) where
  pub rule_named : Node t.session.client → Node t.session.server → (i : Item) → Named t.session.server i
      → EffectNamed t.session.server (rule n standing t i)
  unfolding rule est_rule auth_rule
  rule_named c d (Wire a p) o = wire_named n t.session a p (hop_given n hn a (target p)) o
  rule_named c d (Out a p) o = out_named t.session.server (held t) a p o
  rule_named c d (Up a p) o = up_named t.session.server standing (held t) a p o
  rule_named c d (Est a b e) o = (((o.0, bare_named a b (Req e) o.0 o.1, refl, refl), tt), tt)
  rule_named c d (Auth a q e side) o = either (EffectNamed t.session.server) (has_all_needed n a q) (λ e. (o, tt)) (λ e. (tt, tt))
  rule_named c d (Grant a q e side) o = grant_named t.session.server t.session a q e side o.0 o.1
  rule_named c d (Ack a e) o = ack_named t.session a c d o
  rule_named c d (Dwait a) o = (tt, tt)
  rule_named c d (Ewait a e) o = (tt, tt)
