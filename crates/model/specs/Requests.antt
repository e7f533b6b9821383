-- What each request answers, and the state that it leaves; its refusals, in document 01's order. Assumes nothing.
use Rattle.std.specs.Prelude.{ℕ, ◌+◌, ◌-◌, Bool, true, false, cond, not, ◌&&◌, ◌||◌, List, [], ◌∷◌, ◌++◌, map, leb, ltb, eqb, length, set, take, Option, Some, None, get_or, Result, Ok, Err}
use Rattle.std.proofs.lemmas.List.Edits.{sets}
use Rattle.calculus.specs.declared.answer.Answer.{Answer}
use Rattle.calculus.specs.declared.answer.Answer.TheVariants.{Made, Closed}
use Rattle.calculus.specs.declared.answer.ShownAssociation.{ShownAssociation}
use Rattle.calculus.specs.declared.answer.Refusal.{Refusal}
use Rattle.calculus.specs.declared.answer.Refusal.TheVariants.{Double, Unknown, Late, Taken, Idle, Same, Spent, NoItem, Waiting, Full, Busy, NoSuchTunnel}
use Rattle.calculus.specs.declared.answer.Refusal.TheVariants as refusal
use Rattle.calculus.specs.declared.network.Kind.{Kind}
use Rattle.calculus.specs.declared.network.Network.{Network}
use Rattle.calculus.specs.declared.packet.Payload.TheVariants.{Disc, Data}
use Rattle.calculus.specs.declared.packet.Item.{Item}
use Rattle.calculus.specs.declared.packet.Item.TheVariants.{Wire, Out}
use Rattle.calculus.specs.declared.packet.Slot.{Slot}
use Rattle.calculus.specs.declared.request.Sender.{Sender}
use Rattle.calculus.specs.declared.request.Sender.TheVariants.{Client, Server}
use Rattle.calculus.specs.declared.session.Row.{Row}
use Rattle.calculus.specs.declared.session.Session.{Session}
use Rattle.calculus.specs.declared.session.Stage.{Stage}
use Rattle.calculus.specs.declared.effect.Effect.{Effect}
use Rattle.calculus.specs.declared.state.Part.{Part}
use Rattle.calculus.specs.declared.state.State.{State}
use Rattle.calculus.specs.declared.state.Turn.{Turn}
use Rattle.calculus.specs.Table.{entries_from, only_if}
use Rattle.forms.specs.Answer.{association_line, end_line}
use Rattle.model.specs.Lists.{those}
use Rattle.model.specs.Network.{given, is_gateway, is_default, route_place, next_node, is_routed}
use Rattle.model.specs.Packet.{bare}
use Rattle.model.specs.Item.{is_wait, is_data_item, names_establishment, how_many_items}
use Rattle.model.specs.Row.{held, is_of, is_other, place_out, place_node, place_peer, raised, lowered, spi_of}
use Rattle.model.specs.Rules.{rule}
use Rattle.model.specs.State.{blank_part, load, store, found_item, put_item, placed, answer_of, applied}

-- ---- refusals

-- a test, and the refusal where it holds
abbrev pub Check : Type 0
Check = Bool × Refusal

-- the first refusal whose test holds, or x
unfoldable pub checked : {A : Type 0} → List Check → A → Result A Refusal
checked [] x = Ok x
checked (c ∷ cs) x = cond c.0 (Err c.1) (checked cs x)

-- a refused call "changes no state"
abbrev pub refused : State → Refusal → Turn
refused s r = record { state = s; answer = Err r }

-- ---- node and route

abbrev pub accepted : State → Network → Turn
accepted s n =
    record {
      state = record { opened = s.opened; network = n; sessions = s.sessions; items = s.items; rows = s.rows; users = s.users };
      answer = Ok Answer.Ok;
    }

-- a call that gives this network, or is refused
abbrev pub network_turn : State → Result Network Refusal → Turn
network_turn s (Ok n) = accepted s n
network_turn s (Err r) = refused s r

abbrev pub with_node : Network → ℕ → Kind → List Bool → List Bool → Network
with_node n a k has needs =
    record { nodes = set n.nodes (a - 1) (Some (record { kind = k; has = has; needs = needs })); routes = n.routes }

abbrev pub with_route : Network → ℕ → ℕ → ℕ → Network
with_route n a b next = record { nodes = n.nodes; routes = set n.routes (route_place a b) (next_node next) }

-- node 5, 3
abbrev pub node_checks : Bool → Network → ℕ → List Check
node_checks opened n a = (opened, Late) ∷ (given n a, Double) ∷ []

unfoldable pub node_turn : State → ℕ → Kind → List Bool → List Bool → Turn
node_turn s a k has needs = network_turn s (checked (node_checks s.opened s.network a) (with_node s.network a k has needs))

-- a route's destination is given: 0 "needs no node"
abbrev pub destination_given : Network → ℕ → Bool
destination_given n b = is_default b || given n b

-- the nodes of a route are given
abbrev pub nodes_given : Network → ℕ → ℕ → ℕ → Bool
nodes_given n a b next = given n a && (destination_given n b && given n next)

-- it leads from a node for that node, or to that node
abbrev pub leads_back : ℕ → ℕ → ℕ → Bool
leads_back a b next = eqb a b || eqb a next

-- route 5, 4, 8, 3: "A second default is refused as double", as a second route for a node is
abbrev pub route_checks : Bool → Network → ℕ → ℕ → ℕ → List Check
route_checks opened n a b next =
    (opened, Late)
    ∷ (not (nodes_given n a b next), Unknown)
    ∷ (leads_back a b next, Same)
    ∷ (is_routed n a b, Double)
    ∷ []

unfoldable pub route_turn : State → ℕ → ℕ → ℕ → Turn
route_turn s a b next = network_turn s (checked (route_checks s.opened s.network a b next) (with_route s.network a b next))

-- ---- a session's requests: moves of its own part

-- what becomes of the tables that sessions share: whether a session opens, the rows that went, the rows that came
pub record Change : Type 0 where
  pub opens : Bool
  pub went : List Row
  pub came : List Row

-- what a request answers, what it leaves of the part, and of those tables
pub record Moved : Type 0 where
  pub answer : Answer
  pub part : Part
  pub change : Change

abbrev pub Move : Type 0
Move = Result Moved Refusal

abbrev pub no_rows : Bool → Change
no_rows opens = record { opens = opens; went = []; came = [] }

abbrev pub is_unused : Stage → Bool
is_unused Stage.Unused = true
is_unused Stage.SettingUp = false
is_unused Stage.Open = false
is_unused Stage.Denied = false

abbrev pub unused : Part → Bool
unused t = is_unused t.session.stage

-- "last number above 999,998"
abbrev pub spent : Part → Bool
spent t = ltb 999998 t.session.last.0

-- the next number
abbrev pub next_number : Part → ℕ
next_number t = t.session.last.0 + 1

-- the session at this stage and between these ends, with the item i written
abbrev pub with_item : Part → Stage → ℕ → ℕ → Item → Part
with_item t g c d i =
    record {
      session = record { stage = g; client = c; server = d; begun = t.session.begun; rows = t.session.rows; last = record { 0 = next_number t } };
      items = put_item t.items (next_number t) i;
      rows = t.rows;
    }

abbrev pub made_next : Part → Answer
made_next t = Made (record { 0 = next_number t })

-- "open u c d: stage setting up; writes wire(c, Disc(c) from c to d, 32)"
unfoldable pub opening : Part → ℕ → ℕ → Part
opening t c d = with_item t Stage.SettingUp c d (Wire c (bare c d (Disc c)))

-- open 6, 4, 8, 9, 10
unfoldable pub open_move : Network → ℕ → ℕ → Part → Move
open_move n c d t =
    checked
    ((not (unused t), Taken)
    ∷ (not (given n c && given n d), Unknown)
    ∷ (eqb c d, Same)
    ∷ (is_gateway n c || is_gateway n d, refusal.Gateway)
    ∷ (spent t, Spent)
    ∷ [])
    (record { answer = made_next t; part = opening t c d; change = no_rows true })

-- the effect f of the item at place `at`
unfoldable pub stepped : Part → ℕ → Effect → Moved
stepped t at f =
    record {
      answer = answer_of t.session.last.0 f.outcome;
      part = applied t at f;
      change = record { opens = false; went = []; came = placed t.session.rows f.added };
    }

-- step 7, 11, 12, 10: of the pending item in its place, if there is one
unfoldable pub step_at : Network → (ℕ → ℕ → Bool) → Part → Option (ℕ × Slot) → Move
step_at n standing t None = Err (cond (unused t) Idle NoItem)
step_at n standing t (Some (at, s)) =
    checked ((unused t, Idle) ∷ (is_wait s.item, Waiting) ∷ (spent t, Spent) ∷ [])
    (stepped t at (rule n standing t s.item))

-- "step u k"
unfoldable pub step_move : Network → (ℕ → ℕ → Bool) → ℕ → Part → Move
step_move n standing k t = step_at n standing t (found_item k t.items)

-- "out(c, Data from c to d); with 1, out(d, Data from d to c)"
abbrev pub data_item : Session → Sender → ℕ → Item
data_item s Client tag = Out s.client (bare s.client s.server (Data tag))
data_item s Server tag = Out s.server (bare s.server s.client (Data tag))

unfoldable pub sending : Part → Sender → ℕ → Part
sending t w tag = with_item t t.session.stage t.session.client t.session.server (data_item t.session w tag)

-- send 7, 13, 10
unfoldable pub send_move : Sender → ℕ → Part → Move
send_move w tag t =
    checked ((unused t, Idle) ∷ (leb 12 (how_many_items is_data_item t.items), Full) ∷ (spent t, Spent) ∷ [])
    (record { answer = made_next t; part = sending t w tag; change = no_rows false })

-- t, unused, with the places of `blank` in place of its own
abbrev pub emptied : Part → Part → Part
emptied blank t =
    record {
      session = record { stage = Stage.Unused; client = 0; server = 0; begun = 0; rows = 0; last = t.session.last };
      items = blank.items;
      rows = blank.rows;
    }

-- "close u: its items and rows go; none begun; stage unused"
unfoldable pub closing : Part → Part
closing t = emptied blank_part t

-- close 7, which leaves the part p
abbrev pub close_to : Part → Part → Move
close_to p t =
    checked ((unused t, Idle) ∷ [])
    (record { answer = Closed; part = p; change = record { opens = false; went = held t; came = [] } })

unfoldable pub close_move : Part → Move
close_move t = close_to (closing t) t

-- "removes the rows that establishment e added, at both nodes": the others stay, in their order, and all else is as it was
unfoldable pub dropping : ℕ → Part → Part
dropping e t =
    let s = t.session in
    let kept = those (is_other e) (held t) in
    record {
      session = record { stage = s.stage; client = s.client; server = s.server; begun = s.begun; rows = length kept; last = s.last };
      items = t.items;
      rows = sets t.rows 0 kept;
    }

-- drop 7, 16, 17
unfoldable pub drop_move : ℕ → Part → Move
drop_move e t =
    let gone = those (is_of e) (held t) in
    checked
    ((unused t, Idle)
    ∷ (ltb 0 (how_many_items (names_establishment e) t.items), Busy)
    ∷ (eqb (length gone) 0, NoSuchTunnel)
    ∷ [])
    (record { answer = Closed; part = dropping e t; change = record { opens = false; went = gone; came = [] } })

-- ---- a move made

unfoldable pub changed : State → Change → State
changed s c =
    record {
      opened = c.opens || s.opened;
      network = s.network;
      sessions = s.sessions;
      items = s.items;
      rows = s.rows;
      users = raised (lowered s.users c.went) c.came;
    }

unfoldable pub performed : State → ℕ → Move → Turn
performed s u (Err r) = refused s r
performed s u (Ok m) = record { state = store (changed s m.change) u m.part; answer = Ok m.answer }

-- what session u's request does, that is this function of its part
abbrev pub in_session : State → ℕ → (Part → Move) → Turn
in_session s u f = performed s u (f (load s u))

-- ---- show

-- In(a, q), or Out(a, q), as show has it, with its n users
abbrev pub shown_as : Bool → ℕ → ℕ → ℕ → ShownAssociation
shown_as out a q n = record { node = a; out = out; peer = q; spi = spi_of out a q; users = n }

-- the same, if it stands
abbrev pub association : Bool → ℕ → ℕ → ℕ → List ShownAssociation
association out a q n = only_if (ltb 0 n) (shown_as out a q n)

-- the one whose n users are at place p of their table, if it stands
abbrev pub association_at : ℕ → ℕ → List ShownAssociation
association_at p n = association (place_out p) (place_node p) (place_peer p) n

-- the standing associations, in the order of the table's 2,048 places: "by node, then in before out, then by peer"
unfoldable pub shown : List ℕ → List ShownAssociation
shown l = entries_from association_at 0 (take 2048 l)

-- "one line for each standing association, no other; then (end)"
abbrev pub shown_lines : List ℕ → List (List ℕ)
shown_lines l = map association_line (shown l) ++ (end_line ∷ [])
