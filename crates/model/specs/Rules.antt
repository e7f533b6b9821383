-- The seven rules of a step, each a function of what it reads that gives an effect. Assumes nothing.
use Rattle.std.specs.Prelude.{ℕ, ◌+◌, Bool, true, false, cond, not, ◌&&◌, ◌||◌, List, leb, eqb, Option, Some, None, is_none, option_map, option_and_then}
use Rattle.calculus.specs.declared.answer.Loss.{Loss}
use Rattle.calculus.specs.declared.answer.Loss.TheVariants.{Unprotected, HopLimit, NoRoute, NoTunnel, WrongTunnel, Exhausted}
use Rattle.calculus.specs.declared.effect.Outcome.{Outcome}
use Rattle.calculus.specs.declared.effect.Outcome.TheVariants.{Wrote, WroteByDefault, WroteTwo, Lost, Denied, Opened, Delivered}
use Rattle.calculus.specs.declared.effect.Wait.{Wait}
use Rattle.calculus.specs.declared.effect.Wait.TheVariants.{Discovery, Establishment}
use Rattle.calculus.specs.declared.effect.Effect.{Effect}
use Rattle.calculus.specs.declared.network.NextHop.{NextHop}
use Rattle.calculus.specs.declared.network.NextHop.TheVariants.{Exact, Default}
use Rattle.calculus.specs.declared.packet.Payload.{Payload}
use Rattle.calculus.specs.declared.packet.Payload.TheVariants.{Req, Rep, Disc, Done, Data}
use Rattle.calculus.specs.declared.packet.Header.{Header}
use Rattle.calculus.specs.declared.packet.Packet.{Packet}
use Rattle.calculus.specs.declared.packet.Side.{Side}
use Rattle.calculus.specs.declared.packet.Side.TheVariants.{Responder, Initiator}
use Rattle.calculus.specs.declared.packet.Item.{Item}
use Rattle.calculus.specs.declared.packet.Item.TheVariants.{Wire, Out, Up, Est, Auth, Grant, Ack, Dwait, Ewait}
use Rattle.calculus.specs.declared.session.Peers.{Peers}
use Rattle.calculus.specs.declared.session.Row.{Row}
use Rattle.calculus.specs.declared.session.Session.{Session}
use Rattle.calculus.specs.declared.state.Part.{Part}
use Rattle.calculus.specs.declared.network.Network.{Network}
use Rattle.model.specs.Network.{is_gateway, next_hop, has_all_needed}
use Rattle.model.specs.Packet.{hop_limit, bare, under, target, no_hops_left, fewer, is_data_or_done}
use Rattle.model.specs.Row.{held, in_row, out_row, named, newest, admits, spi_of}

-- ---- effects

-- nothing but the outcome
abbrev pub only : Outcome → Effect
only o = record { outcome = o; wait = None; added = None; begins = None }

abbrev pub lost : Loss → Effect
lost l = only (Lost l)

abbrev pub writes : Item → Effect
writes i = only (Wrote i)

-- use up the wait w, if there is one, write i
abbrev pub writes_for : Option Wait → Item → Effect
writes_for w i = record { outcome = Wrote i; wait = w; added = None; begins = None }

-- add the rows r and then q, write i
abbrev pub writes_rows : Row → Row → Item → Effect
writes_rows r q i = record { outcome = Wrote i; wait = None; added = Some (r, q); begins = None }

-- where document 01 has no outcome: SetUp states that no list of calls comes to it
abbrev pub never_met : Effect
never_met = lost WrongTunnel

-- ---- wire

-- "Disc(p), a ≠ p, and a is a gateway or d"
abbrev pub discovers : Bool → ℕ → ℕ → Payload → Bool
discovers gateway server a (Req e) = false
discovers gateway server a (Rep e) = false
discovers gateway server a (Disc p) = not (eqb a p) && (gateway || eqb a server)
discovers gateway server a Done = false
discovers gateway server a (Data tag) = false

-- the last tunnel point p of Disc(p)
abbrev pub last_point : Payload → ℕ
last_point (Req e) = 0
last_point (Rep e) = 0
last_point (Disc p) = p
last_point Done = 0
last_point (Data tag) = 0

-- the establishments that a session can begin
abbrev pub establishment_limit : ℕ
establishment_limit = 8

-- "with 8 establishments begun"
abbrev pub is_exhausted : Session → Bool
is_exhausted s = leb establishment_limit s.begun

-- "begin the next e (from 1), write dwait(a), est(a, p, e)"
abbrev pub begin : ℕ → ℕ → ℕ → Effect
begin a p e = record { outcome = WroteTwo (Dwait a) (Est a p e); wait = None; added = None; begins = Some e }

-- "a is a gateway, the packet bare, Data or Done"
abbrev pub unprotected : Bool → Packet → Bool
unprotected gateway p = gateway && (is_none p.header && is_data_or_done p.payload)

-- the last two cases, by what the look-up says: "Lost 3 is left for neither"
abbrev pub onward : Option NextHop → Packet → Effect
onward (Some (Exact next)) p = writes (Wire next p)
onward (Some (Default next)) p = only (WroteByDefault (Wire next p))
onward None p = lost NoRoute

-- wire(a, packet, h), where h is the count in use and `look` gives a's next hop for a node: "the first that fits"
unfoldable pub wire_rule : Bool → (ℕ → Option NextHop) → Session → ℕ → Packet → Effect
wire_rule gateway look s a p =
    cond (discovers gateway s.server a p.payload)
    (cond (is_exhausted s) (lost Exhausted) (begin a (last_point p.payload) (s.begun + 1)))
    (cond (eqb a (target p)) (writes (Up a p))
    (cond (unprotected gateway p) (lost Unprotected)
    (cond (no_hops_left p) (lost HopLimit)
    (onward (look (target p)) (fewer p)))))

-- ---- out

-- the header (a, peer, SPI) of the matching out row, or none; it "brings an outer count of 32"
abbrev pub header_to : ℕ → Option Peers → Option Header
header_to a x = option_map (λ q. record { from = a; to = q.first; spi = spi_of true a q.first; hops = hop_limit }) x

-- "give it the header (a, peer, SPI) of the matching out row, or none; write wire"
abbrev pub sent : List Row → ℕ → Packet → Effect
sent rows a p = writes (Wire a (under p (header_to a (newest rows true a p))))

-- a created the packet: its source did, but for the Disc that an ack writes, and no Disc comes to out
abbrev pub created : ℕ → Packet → Bool
created a p = eqb a p.source

-- out(a, packet): "Sending out again at a node that didn't create the packet takes one from the inner count. If the inner count is
-- already 0, that out step answers lost 2 instead." SetUp states that a packet is bare here, so the count in use is the inner one
unfoldable pub out_rule : List Row → ℕ → Packet → Effect
out_rule rows a p =
    cond (created a p) (sent rows a p)
    (cond (no_hops_left p) (lost HopLimit) (sent rows a (fewer p)))

-- ---- up

-- the q of "Header from q"; of a bare packet none
abbrev pub stripped : Option Header → Option Peers
stripped h = option_and_then (λ x. named x.from) h

-- a packet is bare, or "In(a, q) stands", which `standing a q` tells, "and an in row of this session at a has peer q"
abbrev pub admitted : (ℕ → ℕ → Bool) → List Row → ℕ → Option Header → Bool
admitted standing rows a None = true
admitted standing rows a (Some h) = standing a h.from && admits rows a h.from

-- both are none, or both the same peer
abbrev pub same_peers : Option Peers → Option Peers → Bool
same_peers None None = true
same_peers None (Some y) = false
same_peers (Some x) None = false
same_peers (Some x) (Some y) = eqb x.first y.first

-- "the matching in row's peer must be q, or with no row q must be none"
abbrev pub matched : List Row → ℕ → Packet → Bool
matched rows a p = same_peers (newest rows false a p) (stripped p.header)

-- a packet from b, received at its destination a
abbrev pub received : ℕ → ℕ → Payload → Effect
received a b (Req e) = writes (Auth a b e Responder)
received a b (Rep e) = writes_for (Some (Establishment a e)) (Auth a b e Initiator)
received a b (Disc p) = never_met
received a b Done = only Opened
received a b (Data tag) = only (Delivered tag)

-- up(a, packet): "its header test and then what in did, under one number. Lost 4 is tested before lost 5"
unfoldable pub up_rule : (ℕ → ℕ → Bool) → List Row → ℕ → Packet → Effect
up_rule standing rows a p =
    cond (not (admitted standing rows a p.header)) (lost NoTunnel)
    (cond (not (matched rows a p)) (lost WrongTunnel)
    (cond (not (eqb p.destination a)) (writes (Out a (under p None)))
    (received a p.source p.payload)))

-- ---- est, auth

-- est(a, b, e)
unfoldable pub est_rule : ℕ → ℕ → ℕ → Effect
est_rule a b e = only (WroteTwo (Out a (bare a b (Req e))) (Ewait a e))

-- auth(a, q, e, side), where q has all that a needs, or not
unfoldable pub auth_rule : Bool → ℕ → ℕ → ℕ → Side → Effect
auth_rule enough a q e side = cond enough (writes (Grant a q e side)) (only Denied)

-- ---- grant

-- grant(a, q, e, side): "add out row (c, d), then in row (d, c), peer q", or the other way round
unfoldable pub grant_rule : Session → ℕ → ℕ → ℕ → Side → Effect
grant_rule s a q e Responder =
    writes_rows (out_row a s.client s.server q e) (in_row a s.server s.client q e) (Out a (bare a q (Rep e)))
grant_rule s a q e Initiator =
    writes_rows (out_row a s.server s.client q e) (in_row a s.client s.server q e) (Ack a e)

-- ---- ack

-- "at d write out(d, Done from d to c), else wire(a, Disc(a) from c to d, 32)": "the Disc that an ack writes is a new packet"
abbrev pub acknowledged : Session → ℕ → Item
acknowledged s a =
    cond (eqb a s.server) (Out a (bare s.server s.client Done)) (Wire a (bare s.client s.server (Disc a)))

-- ack(a, e)
unfoldable pub ack_rule : Session → ℕ → Effect
ack_rule s a = writes_for (Some (Discovery a)) (acknowledged s a)

-- ---- a step

-- the rule of an item; `standing a q` tells whether In(a, q) stands. A wait is refused before.
unfoldable pub rule : Network → (ℕ → ℕ → Bool) → Part → Item → Effect
rule n standing t (Wire a p) = wire_rule (is_gateway n a) (next_hop n a) t.session a p
rule n standing t (Out a p) = out_rule (held t) a p
rule n standing t (Up a p) = up_rule standing (held t) a p
rule n standing t (Est a b e) = est_rule a b e
rule n standing t (Auth a q e side) = auth_rule (has_all_needed n a q) a q e side
rule n standing t (Grant a q e side) = grant_rule t.session a q e side
rule n standing t (Ack a e) = ack_rule t.session a
rule n standing t (Dwait a) = never_met
rule n standing t (Ewait a e) = never_met
