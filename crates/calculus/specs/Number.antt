-- Numbers in range, the end that a number names, and the SPI of a pair of nodes. `number.rt` and `request.rt` cite it. Assumes nothing.
use Rattle.std.specs.Prelude.{ℕ, ◌+◌, ◌*◌, ◌-◌, Bool, cond, ◌&&◌, Result, Ok, Err, leb, eqb, Option, Some, None, ltb}
use Rattle.calculus.specs.declared.request.Sender.{Sender}
use Rattle.calculus.specs.declared.request.Sender.TheVariants.{Client, Server}
use Rattle.calculus.specs.declared.number.Spi.{Spi}
use Rattle.calculus.specs.declared.number.SessionNumber.{SessionNumber}
use Rattle.calculus.specs.declared.number.ItemNumber.{ItemNumber}
use Rattle.calculus.specs.declared.answer.Refusal.{Refusal}
use Rattle.calculus.specs.declared.answer.Refusal.TheVariants.{Range}

-- n is low to high
abbrev pub within : ℕ → ℕ → ℕ → Bool
within low high n = leb low n && leb n high

-- a is a node's number: "Nodes 1 to 32"
abbrev pub is_node : ℕ → Bool
is_node = within 1 32

-- b is a route's destination: a node, or 0, which "is in range for a route alone"
abbrev pub is_destination : ℕ → Bool
is_destination = within 0 32

-- "Sessions 1 to 8"
abbrev pub is_session : ℕ → Bool
is_session = within 1 8

-- an item's number: "from 1 to 1,000,000"
abbrev pub is_item : ℕ → Bool
is_item = within 1 1000000

-- the last number n of a session, unless it is "above 999,998"
abbrev pub unspent : ℕ → Option ℕ
unspent n = cond (ltb 999998 n) None (Some n)

-- "establishments 1 to 8 are in range"
abbrev pub is_establishment : ℕ → Bool
is_establishment = within 1 8

-- "Tag 0 to 4,294,967,295"
abbrev pub is_tag : ℕ → Bool
is_tag = within 0 4294967295

-- "send u 0 tag" is the client's, "with 1" the server's
abbrev pub sender_of : ℕ → Sender
sender_of w = cond (eqb w 0) Client Server

-- what a number names, or refusal 2, "a number out of range"
abbrev pub session_number : ℕ → Result SessionNumber Refusal
session_number n = cond (is_session n) (Ok (record { 0 = n })) (Err Range)

abbrev pub item_number : ℕ → Result ItemNumber Refusal
item_number n = cond (is_item n) (Ok (record { 0 = n })) (Err Range)

abbrev pub sender : ℕ → Result Sender Refusal
sender w = cond (within 0 1 w) (Ok (sender_of w)) (Err Range)

-- "The SPI of what a receives from b", of In(a, b) and of Out(b, a); 0, which is reserved, unless both are nodes
abbrev pub spi : ℕ → ℕ → Spi
spi a b = record { 0 = cond (is_node a && is_node b) (256 + 32 * (a - 1) + (b - 1)) 0 }
