-- Items: what is asked of one, and of the places that hold them. Assumes nothing.
use Rattle.std.specs.Prelude.{ℕ, Bool, true, false, ◌&&◌, List, eqb, get_or, Option, Some, None, is_some}
use Rattle.calculus.specs.declared.effect.Wait.{Wait}
use Rattle.calculus.specs.declared.effect.Wait.TheVariants.{Discovery, Establishment}
use Rattle.calculus.specs.declared.packet.Item.{Item}
use Rattle.calculus.specs.declared.packet.Item.TheVariants.{Wire, Out, Up, Est, Auth, Grant, Ack, Dwait, Ewait}
use Rattle.calculus.specs.declared.packet.Slot.{Slot}
use Rattle.model.specs.Lists.{tally}
use Rattle.model.specs.Packet.{is_data, concerns}

-- the wait that the item is: dwait(a), ewait(a, e) or none
abbrev pub wait_in : Item → Option Wait
wait_in (Wire a p) = None
wait_in (Out a p) = None
wait_in (Up a p) = None
wait_in (Est a b e) = None
wait_in (Auth a q e side) = None
wait_in (Grant a q e side) = None
wait_in (Ack a e) = None
wait_in (Dwait a) = Some (Discovery a)
wait_in (Ewait a e) = Some (Establishment a e)

-- "a dwait or ewait"
abbrev pub is_wait : Item → Bool
is_wait i = is_some (wait_in i)

abbrev pub same_wait : Wait → Wait → Bool
same_wait (Discovery a) (Discovery b) = eqb a b
same_wait (Discovery a) (Establishment b f) = false
same_wait (Establishment a e) (Discovery b) = false
same_wait (Establishment a e) (Establishment b f) = eqb a b && eqb e f

-- there is a wait, and it is w
abbrev pub is_that : Wait → Option Wait → Bool
is_that w None = false
is_that w (Some v) = same_wait w v

-- the item is the wait w
abbrev pub is_that_wait : Wait → Item → Bool
is_that_wait w i = is_that w (wait_in i)

-- a packet with Data
abbrev pub is_data_item : Item → Bool
is_data_item (Wire a p) = is_data p.payload
is_data_item (Out a p) = is_data p.payload
is_data_item (Up a p) = is_data p.payload
is_data_item (Est a b e) = false
is_data_item (Auth a q e side) = false
is_data_item (Grant a q e side) = false
is_data_item (Ack a e) = false
is_data_item (Dwait a) = false
is_data_item (Ewait a e) = false

-- "an item naming that establishment" (request #109): est, auth, grant, ack and ewait of e, and Req(e) and Rep(e) in any item. While a Req, a
-- Rep or the responder's auth or grant pends its ewait does too, so no list of calls shows that these name it
abbrev pub names_establishment : ℕ → Item → Bool
names_establishment e (Wire a p) = concerns p.payload e
names_establishment e (Out a p) = concerns p.payload e
names_establishment e (Up a p) = concerns p.payload e
names_establishment e (Est a b f) = eqb f e
names_establishment e (Auth a q f side) = eqb f e
names_establishment e (Grant a q f side) = eqb f e
names_establishment e (Ack a f) = eqb f e
names_establishment e (Dwait a) = false
names_establishment e (Ewait a f) = eqb f e

-- ---- places: each has an item with its number, or none

-- f holds of the item in the place, if there is one
abbrev pub of_item : (Item → Bool) → Option Slot → Bool
of_item f None = false
of_item f (Some s) = f s.item

-- P holds of what is in the place, if an item is
abbrev pub OfSlot : (Slot → Type 0) → Option Slot → Type 0
OfSlot P None = Unit
OfSlot P (Some s) = P s

-- how many places hold an item of which f holds
abbrev pub how_many_items : (Item → Bool) → List (Option Slot) → ℕ
how_many_items f l = tally (of_item f) l

-- what is in a place; past the places there is nothing
abbrev pub slot_at : List (Option Slot) → ℕ → Option Slot
slot_at l at = get_or l at None
