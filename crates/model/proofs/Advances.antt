-- Every rule leads from one place of a set-up to another, a step nearer to the end. Assumes nothing.
use mathlib.Core.Path.{◌≡◌, refl, sym, ap, subst, ◌∙◌}
use mathlib.Core.Bool.{true, false, not, ◌||◌}
use mathlib.Core.List.{List}
use Prim.Native.Nat.{ℕ, ◌+◌, ◌-◌, ◌*◌, ◌≤◌, ◌<◌}
use native.Mathlib.Omega.{arith}
use lib.Dec.{eqb}
use borrow.Author.Tests.{eqb-true, eqb-false, eq-eqb, ne_eqb, not-false, not-true}
use Rattle.std.specs.Prelude.{Option, Some, None}
use Rattle.calculus.proofs.Tests.{both, never, either}
use Rattle.calculus.specs.declared.answer.Loss.{Loss}
use Rattle.calculus.specs.declared.effect.Effect.{Effect}
use Rattle.calculus.specs.declared.network.Network.{Network}
use Rattle.std.specs.Prelude.{Option, Some, None}
use Rattle.calculus.specs.declared.network.NextHop.{NextHop}
use Rattle.calculus.specs.declared.network.NextHop.TheVariants.{Exact, Default}
use Rattle.calculus.specs.declared.packet.Payload.{Payload}
use Rattle.calculus.specs.declared.packet.Payload.TheVariants.{Req, Rep, Disc, Done}
use Rattle.calculus.specs.declared.packet.Header.{Header}
use Rattle.calculus.specs.declared.packet.Packet.{Packet}
use Rattle.calculus.specs.declared.packet.Item.{Item}
use Rattle.calculus.specs.declared.packet.Item.TheVariants.{Wire, Out, Est}
use Rattle.calculus.specs.declared.session.Peers.{Peers}
use Rattle.calculus.specs.declared.session.Row.{Row}
use Rattle.calculus.specs.declared.state.Part.{Part}
use Rattle.model.specs.Lists.{All}
use Rattle.model.specs.Network.{is_gateway, next_hop, has_all_needed}
use Rattle.model.specs.Packet.{hop_limit, bare, under, target, no_hops_left, shorter, fewer}
use Rattle.model.specs.Row.{held, named, newest, admits, are_nodes}
use Rattle.model.specs.Rules.{lost, writes, is_exhausted, begin, discovers, unprotected, onward, wire_rule, sent, header_to, created, out_rule, same_peers, admitted, matched, received, up_rule, est_rule, auth_rule, grant_rule, acknowledged, ack_rule, rule}
use Rattle.model.specs.State.{begun_after, added_rows}
use Rattle.model.specs.Termination.{trip_steps, ceiling, is_active}
use Rattle.model.proofs.Discovers.{server_discovers, not_exhausted}
use Rattle.model.proofs.Match.{OfPeers}
use Rattle.model.proofs.Named.{Written}
use Rattle.model.proofs.Places.{node_bounds}
use Rattle.model.proofs.Trips.{bare_with, Trip, at_source, on_wire, Travels, gone, further, moves, comes, travels, trip_some}
use Rattle.model.proofs.Underway.{Leaves, Ends, Discovering, Begun, Returning, Underway, discovering, establishing, requesting, responder_auth, responder_grant, replying, initiator_auth, initiator_grant, acknowledging, done_out, done_on_wire, done_up, done_bare}
use Rattle.model.proofs.Points.{Through, next_node, points, walk_found, walk_on, points_next, after_client, between_next, met_once, Chained, responder_out, responder_in, initiator_out, initiator_in, never_tunnelled, passed}

-- it is counted, the item written is under way again, and the rows added are of the chain
pub record Next (net : Network) (c d b n : ℕ) (f : Effect) : Type 0 where
  pub counted : n + 1 ≤ ceiling
  pub written : Written (λ i. is_active i ≡ true → Underway net c d (begun_after b f.begins) (n + 1) i) f.outcome
  pub added : All (Chained net c d (begun_after b f.begins)) (added_rows f.added)

-- what matches one peer is that peer
same_some : (x : Option Peers) (q : ℕ) → same_peers x (Some (record { first = q })) ≡ true → x ≡ Some (record { first = q })
same_some None q e = never e
same_some (Some x) q e = ap (λ (n : ℕ). Some (record { first = n })) (eqb-true x.first q e)

same_named : (x : Option Peers) (q : ℕ) → 1 ≤ q → same_peers x (named q) ≡ true → x ≡ Some (record { first = q })
same_named x q h e =
    let some : named q ≡ Some (record { first = q }) = rw (ne_eqb q 0 (λ z. absurd (omega (arith, z, h)))) refl in
    same_some x q (subst (λ y. same_peers x y ≡ true) some e)

-- what an admitted header is from is a node
from_node : (rows : List Row) (a : ℕ) (h : Header) → admitted are_nodes rows a (Some h) ≡ true → 1 ≤ h.from
from_node rows a h e = let n = node_bounds a h.from (both (are_nodes a h.from) (admits rows a h.from) e).0 in n.2

-- what stands is told by the nodes, as `local` of Local has it
module _ (net : Network) (t : Part) (n : ℕ) where
  abbrev c : ℕ
  c = t.session.client

  abbrev d : ℕ
  d = t.session.server

  abbrev b : ℕ
  b = t.session.begun

  abbrev point : ℕ → ℕ
  point i = points net c d i

  abbrev Place : Item → Type 0
  Place i = Underway net c d b (n + 1) i

  abbrev After : Effect → Type 0
  After f = Next net c d b n f

  module _ (ends : Ends net c d) (rows : All (Chained net c d b) (held t)) where
    loses : {x : Loss} → n + 1 ≤ ceiling → After (lost x)
    loses h = record { counted = h; written = tt; added = tt }

    wrote : {i : Item} → n + 1 ≤ ceiling → Place i → After (writes i)
    wrote h p = record { counted = h; written = λ o. p; added = tt }

    -- whatever the look-up says; with no next node there is no item to place
    moved_on : (next : Option NextHop) (p : Packet) → n + 1 ≤ ceiling → Place (Wire (next_node next) p) → After (onward next p)
    moved_on (Some (Exact next)) p few w = record { counted = few; written = λ o. w; added = tt }
    moved_on (Some (Default next)) p few w = record { counted = few; written = λ o. w; added = tt }
    moved_on None p few w = loses few

    -- a packet on its way goes on, is lost or is received
    on_trip : {j : ℕ} {f : Effect} {x z : ℕ} {y : Payload} → n + 1 ≤ ceiling → Travels x z y j f
        → ((k : ℕ) (i : Item) → Trip x z y k i → k < j → Place i) → After (received z x y) → After f
    on_trip h (gone l) g r = loses h
    on_trip h (further k i w m) g r = wrote h (g k i w m)
    on_trip h (moves next k m) g r = moved_on next _ h (g (k + 2) _ (on_wire (next_node next) k) m)
    on_trip h comes g r = r

    -- the client discovers nothing
    not_client : (a p : ℕ) → discovers (is_gateway net a) d a (Disc p) ≡ true → a ≡ c → ⊥
    not_client a p e k =
        let m = (both (not (eqb a p)) (is_gateway net a || eqb a d) e).1 in
        let w : (is_gateway net a || eqb a d) ≡ false = rw (k, ends.no_gateway) (ne_eqb c d ends.apart) in
        never (sym w ∙ m)

    -- a Disc that nobody discovers at a, and that has hops left
    onward_disc : (a h : ℕ) → Discovering net c d b n a h → discovers (is_gateway net a) d a (Disc (point b)) ≡ false → (h ≡ 0 → ⊥)
        → After (onward (next_hop net a d) (bare_with c d (Disc (point b)) (h - 1)))
    onward_disc a h w g z =
        moved_on (next_hop net a d) (bare_with c d (Disc (point b)) (h - 1)) (omega (arith, w.leaves, w.few))
        (discovering (next_node (next_hop net a d)) (h - 1)
        (record {
          between = w.between;
          before = w.before;
          few = w.few;
          arrives = walk_on net d (point b) h a z g ∙ w.arrives;
          leaves = omega (arith, w.leaves);
        }))

    -- the node that discovers the Disc is the next point
    begins : (a h : ℕ) → Discovering net c d b n a h → discovers (is_gateway net a) d a (Disc (point b)) ≡ true → b < 8
        → After (begin a (point b) (b + 1))
    begins a h w g o =
        let e : point (b + 1) ≡ a = sym w.arrives ∙ walk_found net d (point b) h a g in
        let begun : Begun net c d (b + 1) b =
        record {
          between = between_next net c d b w.between w.before (λ z. not_client a (point b) g (sym e ∙ z));
          number = refl;
          few = omega arith;
        } in
        record {
          counted = omega (arith, w.leaves);
          written = (
            λ y. never y,
            λ y. subst (λ (x : ℕ). Underway net c d (b + 1) (n + 1) (Est x (point b) (b + 1))) e (establishing b begun (omega (arith, w.leaves))),
          );
          added = tt;
        }

    -- the ack of the server sends Done, any other the next Disc
    ack_next : (i : ℕ) → Begun net c d b i → Leaves b n 1 → Place (acknowledged t.session (point b))
    ack_next i w k =
        either Place (eqb (point b) d)
        (λ e.
        done_out hop_limit (point b) b (omega arith)
        (record { between = w.between; server = eqb-true (point b) d e; here = refl; least = omega (arith, w.number); most = omega arith })
        (omega (arith, w.few)))
        (λ e.
        discovering (point b) _
        (record {
          between = w.between;
          before = eqb-false (point b) d e;
          few = w.few;
          arrives = sym (points_next net c d b (b + 1) refl);
          leaves = omega arith;
        }))

    -- through the matching tunnel, or bare
    done_sent : (m x k : ℕ) → m ≤ hop_limit → Returning net c d b x k → trip_steps * k + n ≤ ceiling → After (sent (held t) x (bare_with d c Done m))
    done_sent m x k o w l =
        go (newest (held t) true x (bare_with d c Done m))
      where
        go : (q : Option Peers) → After (writes (Wire x (under (bare_with d c Done m) (header_to x q))))
        go None = wrote (omega (arith, w.least)) (done_bare (on_wire x m) (omega arith) (omega (arith, w.least)))
        go (Some q) = wrote (omega (arith, w.least)) (done_on_wire m k _ x o w (omega (arith, w.least)))

    -- out of the tunnel from x, and on from y, which is the point before
    done_through : (m x k y : ℕ) → m ≤ hop_limit → Returning net c d b x k → trip_steps * (k - 1) + 1 + n ≤ ceiling
        → newest (held t) false y (bare d c Done) ≡ Some (record { first = x }) → (c ≡ y → ⊥) → After (writes (Out y (bare_with d c Done m)))
    done_through m x k y o w l e f =
        let v : Through net c d b y x = subst (OfPeers false y (bare d c Done) (Through net c d b y)) e (passed net c d b ends.apart y (held t) rows) in
        let same : k ≡ v.number = met_once net c d b w.between w.server k v.number (sym w.here ∙ v.far) w.most v.few in
        let on : 1 ≤ v.place = after_client net c d v.place (λ z. f (sym (v.near ∙ z))) in
        wrote (omega arith)
        (done_out m y v.place o
        (record { between = w.between; server = w.server; here = v.near; least = on; most = omega (arith, v.follows, v.few) })
        (omega (arith, v.follows, same)))

    initiator : (i : ℕ) → Begun net c d b i → point b ≡ c → ⊥
    initiator i w = w.between.client b (omega (arith, w.number)) (omega arith)

    pub advances : (i : Item) → Underway net c d b n i → After (rule net are_nodes t i)
    unfolding rule wire_rule out_rule up_rule est_rule auth_rule grant_rule ack_rule
    advances x (discovering a h w) =
        let p = bare_with c d (Disc (point b)) h in
        let few : n + 1 ≤ ceiling = omega (arith, w.leaves, w.few) in
        either After (discovers (is_gateway net a) d a (Disc (point b)))
        (λ g. either After (is_exhausted t.session) (λ o. loses few) (λ o. begins a h w g (not_exhausted t.session o)))
        (λ g. either After (eqb a d)
        (λ o.
        let e = eqb-true a d o in
        never (sym g ∙ server_discovers (is_gateway net a) d a (point b) (λ y. w.before (sym y ∙ e)) e))
        (λ o. either After (unprotected (is_gateway net a) p) (λ o. loses few)
        (λ o. either After (no_hops_left p) (λ z. loses few) (λ z. onward_disc a h w g (eqb-false h 0 z)))))
    advances x (establishing i w k) =
        record { counted = omega arith; written = (λ o. requesting i w at_source (omega arith), λ o. never o); added = tt }
    advances x (requesting i w v k) =
        let p = bare (point b) (point i) (Req b) in
        on_trip (omega arith)
        (travels net t (point b) (point i) (Req b) (λ g u x. refl)
        (λ m. never_tunnelled net c d b (point b) p i w.number w.between (eq-eqb b b refl) (λ z. (initiator i w, z)) (held t) rows) v)
        (λ j x u m. requesting i w u (omega arith))
        (wrote (omega arith) (responder_auth i w (omega (arith, trip_some v))))
    advances x (responder_auth i w k) =
        either After (has_all_needed net (point i) (point b))
        (λ e. wrote (omega arith) (responder_grant i w (omega arith)))
        (λ e. record { counted = omega arith; written = tt; added = tt })
    advances x (responder_grant i w k) =
        record {
          counted = omega arith;
          written = λ o. replying i w at_source (omega arith);
          added = (responder_out i b w.number (omega arith), (responder_in i b w.number (omega arith), tt));
        }
    advances x (replying i w v k) =
        let p = bare (point i) (point b) (Rep b) in
        on_trip (omega arith)
        (travels net t (point i) (point b) (Rep b) (λ g u x. refl)
        (λ m. never_tunnelled net c d b (point i) p i w.number w.between (eq-eqb b b refl) (λ z. (z, initiator i w)) (held t) rows) v)
        (λ j x u m. replying i w u (omega arith))
        (record { counted = omega arith; written = λ o. initiator_auth i w (omega (arith, trip_some v)); added = tt })
    advances x (initiator_auth i w k) =
        either After (has_all_needed net (point b) (point i))
        (λ e. wrote (omega arith) (initiator_grant i w (omega arith)))
        (λ e. record { counted = omega arith; written = tt; added = tt })
    advances x (initiator_grant i w k) =
        record {
          counted = omega arith;
          written = λ o. acknowledging i w (omega arith);
          added = (initiator_out i b w.number (omega arith), (initiator_in i b w.number (omega arith), tt));
        }
    advances x (acknowledging i w k) = record { counted = omega arith; written = λ o. ack_next i w k; added = tt }
    advances i (done_out m x k o w l) =
        let p = bare_with d c Done m in
        either After (created x p) (λ e. done_sent m x k o w l)
        (λ e. either After (no_hops_left p) (λ z. loses (omega (arith, w.least))) (λ z. done_sent (m - 1) x k (omega arith) w l))
    advances i (done_on_wire m k h y o w l) =
        let p = under (bare_with d c Done m) (Some h) in
        let few : n + 1 ≤ ceiling = omega arith in
        either After (eqb y (target p)) (λ e. wrote few (done_up m k h y o w (omega arith)))
        (λ e. either After (unprotected (is_gateway net y) p) (λ o. loses few)
        (λ e. either After (no_hops_left p) (λ z. loses few)
        (λ z. moved_on (next_hop net y (target p)) (fewer p) few
        (done_on_wire m k (shorter h) _ o w (omega (arith, eqb-false h.hops 0 z))))))
    advances i (done_up m k h y o w l) =
        let few : n + 1 ≤ ceiling = omega arith in
        let p = under (bare_with d c Done m) (Some h) in
        let match = matched (held t) y p in
        let enters = admitted are_nodes (held t) y p.header in
        either After (not enters) (λ e. loses few)
        (λ e. either After (not match) (λ g. loses few)
        (λ g. either After (not (eqb c y))
        (λ f. done_through m h.from k y o w l (same_named _ h.from (from_node (held t) y h (not-false enters e)) (not-false match g))
        (eqb-false c y (not-true (eqb c y) f)))
        (λ f. record { counted = few; written = tt; added = tt })))
    advances i (done_bare v l m) =
        on_trip (omega (arith, trip_some v))
        (travels net t d c Done (λ g u x. refl) (λ o. absurd (omega arith)) v)
        (λ j x u o. done_bare u (omega arith) (omega arith))
        (record { counted = omega (arith, trip_some v); written = tt; added = tt })
