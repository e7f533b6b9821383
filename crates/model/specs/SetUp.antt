-- What a set-up can hold, whatever the list of calls: no stated outcome for other tables is met. Proved in proofs/SetUp. Assumes nothing.
use Rattle.std.specs.Prelude.{ℕ, ◌+◌, ◌*◌, ◌≤◌, ◌<◌, ◌≡◌, Bool, true, false, cond, not, ◌&&◌, List, [], ◌∷◌, ◌++◌, length, get_or, Option, Some, None, is_none, is_some}
use Rattle.calculus.specs.declared.effect.Outcome.{Outcome}
use Rattle.calculus.specs.declared.effect.Outcome.TheVariants.{Wrote, WroteByDefault, WroteTwo, Lost, Denied, Opened, Delivered}
use Rattle.calculus.specs.declared.effect.Wait.{Wait}
use Rattle.calculus.specs.declared.effect.Wait.TheVariants.{Discovery, Establishment}
use Rattle.calculus.specs.declared.effect.Effect.{Effect}
use Rattle.calculus.specs.declared.network.Network.{Network}
use Rattle.calculus.specs.declared.network.NextHop.{NextHop}
use Rattle.calculus.specs.declared.network.NextHop.TheVariants.{Exact, Default}
use Rattle.calculus.specs.declared.packet.Payload.{Payload}
use Rattle.calculus.specs.declared.packet.Payload.TheVariants.{Req, Rep, Disc, Done, Data}
use Rattle.calculus.specs.declared.packet.Header.{Header}
use Rattle.calculus.specs.declared.packet.Packet.{Packet}
use Rattle.calculus.specs.declared.packet.Item.{Item}
use Rattle.calculus.specs.declared.packet.Item.TheVariants.{Wire, Out, Up, Est, Auth, Grant, Ack, Dwait, Ewait}
use Rattle.calculus.specs.declared.packet.Slot.{Slot}
use Rattle.calculus.specs.declared.state.Part.{Part}
use Rattle.calculus.specs.declared.state.State.{State}
use Rattle.calculus.specs.Number.{within, is_session}
use Rattle.model.specs.Lists.{tally, All, up_from}
use Rattle.model.specs.Network.{given, is_gateway, next_hop}
use Rattle.model.specs.Packet.{hop_limit}
use Rattle.model.specs.Row.{held, is_of, are_nodes, users_of, stands}
use Rattle.model.specs.Rules.{rule}
use Rattle.model.specs.State.{fresh, load, is_numbered, put_item, added_rows, applied}
use Rattle.model.specs.Requests.{unused}
use Rattle.model.specs.Item.{is_wait, is_that_wait, is_data_item, OfSlot, how_many_items, slot_at}
use Rattle.model.specs.Calls.{Call, after}
use Rattle.model.specs.Noninterference.{rows_naming}

-- an item of the set-up: any but Data
abbrev pub is_set_up_item : Item → Bool
is_set_up_item i = not (is_data_item i)

abbrev pub is_grant : Item → Bool
is_grant (Wire a p) = false
is_grant (Out a p) = false
is_grant (Up a p) = false
is_grant (Est a b e) = false
is_grant (Auth a q e side) = false
is_grant (Grant a q e side) = true
is_grant (Ack a e) = false
is_grant (Dwait a) = false
is_grant (Ewait a e) = false

abbrev pub is_disc : Payload → Bool
is_disc (Req e) = false
is_disc (Rep e) = false
is_disc (Disc p) = true
is_disc Done = false
is_disc (Data tag) = false

-- a Disc anywhere but on a wire
abbrev pub is_disc_off_wire : Item → Bool
is_disc_off_wire (Wire a p) = false
is_disc_off_wire (Out a p) = is_disc p.payload
is_disc_off_wire (Up a p) = is_disc p.payload
is_disc_off_wire (Est a b e) = false
is_disc_off_wire (Auth a q e side) = false
is_disc_off_wire (Grant a q e side) = false
is_disc_off_wire (Ack a e) = false
is_disc_off_wire (Dwait a) = false
is_disc_off_wire (Ewait a e) = false

-- the wait of a packet to a: ewait(a, e) for Rep(e)
abbrev pub wait_of_packet : ℕ → Payload → Option Wait
wait_of_packet a (Req e) = None
wait_of_packet a (Rep e) = Some (Establishment a e)
wait_of_packet a (Disc p) = None
wait_of_packet a Done = None
wait_of_packet a (Data tag) = None

-- the wait that the item is to use up: a Rep its ewait, an ack its dwait
abbrev pub wait_of : Item → Option Wait
wait_of (Wire a p) = wait_of_packet p.destination p.payload
wait_of (Out a p) = wait_of_packet p.destination p.payload
wait_of (Up a p) = wait_of_packet p.destination p.payload
wait_of (Est a b e) = None
wait_of (Auth a q e side) = None
wait_of (Grant a q e side) = None
wait_of (Ack a e) = Some (Discovery a)
wait_of (Dwait a) = None
wait_of (Ewait a e) = None

-- the wait pends, if there is one
abbrev pub Pends : List (Option Slot) → Option Wait → Type 0
Pends l None = Unit
Pends l (Some w) = 1 ≤ how_many_items (is_that_wait w) l

-- the header's count is not above 32, if there is one
abbrev pub FewOuter : Option Header → Type 0
FewOuter None = Unit
FewOuter (Some h) = h.hops ≤ hop_limit

-- neither count is above 32
abbrev pub FewHops : Packet → Type 0
FewHops p = (p.hops ≤ hop_limit) × FewOuter p.header

-- what holds of the item's packet, if it has one: at out it is bare, so that there the count in use is the inner one
abbrev pub HoldsPacket : Item → Type 0
HoldsPacket (Wire a p) = FewHops p
HoldsPacket (Out a p) = FewHops p × (is_none p.header ≡ true)
HoldsPacket (Up a p) = FewHops p
HoldsPacket (Est a b e) = Unit
HoldsPacket (Auth a q e side) = Unit
HoldsPacket (Grant a q e side) = Unit
HoldsPacket (Ack a e) = Unit
HoldsPacket (Dwait a) = Unit
HoldsPacket (Ewait a e) = Unit

-- ---- what a step leaves

-- the items that an outcome writes
abbrev pub items_of : Outcome → List Item
items_of (Wrote i) = i ∷ []
items_of (WroteByDefault i) = i ∷ []
items_of (WroteTwo i j) = i ∷ j ∷ []
items_of (Lost k) = []
items_of Denied = []
items_of Opened = []
items_of (Delivered tag) = []

-- the item that is the wait
abbrev pub wait_item : Wait → Item
wait_item (Discovery a) = Dwait a
wait_item (Establishment a e) = Ewait a e

-- the same, if there is a wait
abbrev pub wait_items : Option Wait → List Item
wait_items None = []
wait_items (Some w) = wait_item w ∷ []

-- all that the effect f of the item i at place `at` brings finds a place in the part t
pub record FindsPlaces (t : Part) (at : ℕ) (i : Item) (f : Effect) : Type 0 where
  -- "Rows are kept in order of age": all that f adds stand behind those that stood
  pub rows : held (applied t at f) ≡ held t ++ added_rows f.added
  -- of items of any kind g as many pend as before, without the stepped item and the wait that are used up, and with all that are
  -- written
  pub items : (g : Item → Bool)
      → how_many_items g (applied t at f).items + tally g (i ∷ wait_items f.wait)
      ≡ how_many_items g t.items + tally g (items_of f.outcome)

-- ---- what every list of calls keeps

-- of a session's part t of the state s
pub record Holds (s : State) (t : Part) : Type 0 where
  -- "its set-up never holds over 3"
  pub set_up : how_many_items is_set_up_item t.items ≤ 3
  -- "At most 12 Data items of a session pend"
  pub data_items : how_many_items is_data_item t.items ≤ 12
  -- "16 places a session .. suffice": one is free; with the stepped item's own that makes two, enough for any rule
  pub item_places : length t.items ≡ 16
  pub free_place : 1 ≤ tally is_none t.items
  -- so every item finds a place: the one that an open or a send writes, and each of a step
  pub written : (n : ℕ) (i : Item) (g : Item → Bool) → how_many_items g (put_item t.items n i) ≡ how_many_items g t.items + tally g (i ∷ [])
  pub stepped : (at : ℕ) (x : Slot) → slot_at t.items at ≡ Some x → is_wait x.item ≡ false
      → FindsPlaces t at x.item (rule s.network (stands s.users false) t x.item)
  -- "and 32 rows": no more stand, and the two rows of a grant find a place
  pub row_places : length t.rows ≡ 32
  pub rows : t.session.rows + 2 * how_many_items is_grant t.items ≤ 32
  -- of these an establishment has 4 at most, and none unless it is begun
  pub establishments : (e : ℕ) → tally (is_of e) (held t) ≤ cond (within 1 t.session.begun e) 4 0
  -- every row names an association of two nodes, so no row's peer is 0, which match answers for none
  pub row_nodes : All (λ r. are_nodes r.node r.peers.first ≡ true) (held t)
  -- "with 8 establishments begun, lost 6"
  pub begun : t.session.begun ≤ 8
  -- no packet has more hops left than it started with, and at out none has a header
  pub packets : All (OfSlot (λ x. HoldsPacket x.item)) t.items
  -- "No Rep lacks its ewait, no ack its dwait"
  pub waits : (at : ℕ) (x : Slot) → slot_at t.items at ≡ Some x → Pends t.items (wait_of x.item)
  -- "no Disc reaches up"
  pub discs : how_many_items is_disc_off_wire t.items ≡ 0
  -- "from 1 to 1,000,000"
  pub last : t.session.last.0 ≤ 1000000
  -- no two pending items have one number, and each has one that was issued
  pub numbers : (k : ℕ) → tally (is_numbered k) t.items ≤ cond (within 1 t.session.last.0 k) 1 0
  -- an unused session has no items, no rows and none begun
  pub idle : unused t ≡ true → (tally is_some t.items ≡ 0) × (t.session.rows ≡ 0) × (t.session.begun ≡ 0)
  -- users are the rows of all sessions that name the association, so they never come to either end of the table's numbers
  pub users : (out : Bool) (a q : ℕ) → are_nodes a q ≡ true → users_of s.users out a q ≡ rows_naming out a q s (up_from 0 8)
  pub few_users : (out : Bool) (a q : ℕ) → users_of s.users out a q ≤ 256

-- the next node, if the look-up gives one, was given
abbrev pub LeadsToGiven : Network → Option NextHop → Type 0
LeadsToGiven n (Some (Exact next)) = given n next ≡ true
LeadsToGiven n (Some (Default next)) = given n next ≡ true
LeadsToGiven n None = Unit

-- of the network n; it follows from `Consistent` of GivenBack, and is what the rules rest on
pub record HoldsNetwork (n : Network) : Type 0 where
  -- a route, or a default, leads to a node that was given
  pub routes : (a b : ℕ) → LeadsToGiven n (next_hop n a b)
  -- a gateway is a node that was given
  pub gateways : (a : ℕ) → is_gateway n a ≡ true → given n a ≡ true

pub record SetUps : Type 0 where
  pub network : (cs : List Call) → HoldsNetwork (after fresh cs).network
  pub holds : (cs : List Call) (u : ℕ) → is_session u ≡ true → Holds (after fresh cs) (load (after fresh cs) u)
