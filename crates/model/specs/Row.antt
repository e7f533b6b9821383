-- What a row means: the establishment that added it, the packets that it matches, the association that it names, the users that it
-- stands for. Assumes nothing.
use Rattle.std.specs.Prelude.{ℕ, ◌+◌, ◌*◌, ◌-◌, ◌/◌, ◌%◌, Bool, true, false, cond, not, ◌&&◌, List, leb, ltb, eqb, reverse, get_or, set, take, Option, Some, None, option_and_then}
use Rattle.std.specs.List.{find, list_any}
use Rattle.calculus.specs.Number.{is_node, spi}
use Rattle.calculus.specs.declared.number.Spi.{Spi}
use Rattle.calculus.specs.declared.packet.Packet.{Packet}
use Rattle.calculus.specs.declared.session.Peers.{Peers}
use Rattle.calculus.specs.declared.session.Row.{Row}
use Rattle.calculus.specs.declared.state.Part.{Part}
use Rattle.model.specs.Lists.{fold, tally}
use Rattle.model.specs.Packet.{concerns}

-- a session's rows, the oldest first
abbrev pub held : Part → List Row
held t = take t.session.rows t.rows

-- an out row and an in row at a, with the filter (from, to), peer q, of establishment e
abbrev pub out_row : ℕ → ℕ → ℕ → ℕ → ℕ → Row
out_row a from to q e = record { node = a; out = true; source = from; destination = to; peers = record { first = q }; establishment = e }

abbrev pub in_row : ℕ → ℕ → ℕ → ℕ → ℕ → Row
in_row a from to q e = record { node = a; out = false; source = from; destination = to; peers = record { first = q }; establishment = e }

-- establishment e added the row
abbrev pub is_of : ℕ → Row → Bool
is_of e r = eqb r.establishment e

-- another establishment added it
abbrev pub is_other : ℕ → Row → Bool
is_other e r = not (is_of e r)

-- ---- match

-- both are out, or both are in
abbrev pub same_way : Bool → Bool → Bool
same_way true y = y
same_way false y = not y

-- the row is at the node, in the direction, its filter equals the packet's source and destination, and it is not skipped: "for Req(e)
-- and Rep(e), rows of that same e are skipped". For Req(e) no list of calls tells it, since it is gone when they come. Nor does one
-- tell either half of the filter from the whole: it is (c, d) or (d, c), and Req and Rep meet rows of their own e alone
abbrev pub fits : Bool → ℕ → Packet → Row → Bool
fits out a p r =
    same_way r.out out
    && eqb r.node a
    && eqb r.source p.source
    && eqb r.destination p.destination
    && not (concerns p.payload r.establishment)

-- the peers that a row's peer, or a header's q, names: none by 0, which is no node
abbrev pub named : ℕ → Option Peers
named q = cond (eqb q 0) None (Some (record { first = q }))

-- match: the peers of the newest row that fits, the rows being in order of age; none where no row fits
abbrev pub newest : List Row → Bool → ℕ → Packet → Option Peers
newest rows out a p = option_and_then (λ r. named r.peers.first) (find (fits out a p) (reverse rows))

-- ---- the association that a row names

-- two associations are the same: both Out or both In, of one node, with one peer
abbrev pub same_association : Bool → ℕ → ℕ → Bool → ℕ → ℕ → Bool
same_association o b s out a q = same_way o out && (eqb b a && eqb s q)

-- "A row at a with peer q names In(a, q) or Out(a, q), by its direction."
abbrev pub names : Bool → ℕ → ℕ → Row → Bool
names out a q r = same_association r.out r.node r.peers.first out a q

-- the SPI of In(a, q), or of Out(a, q)
abbrev pub spi_of : Bool → ℕ → ℕ → Spi
spi_of true a q = spi q a
spi_of false a q = spi a q

-- ---- users

-- how many of the rows name the association
unfoldable pub how_many : Bool → ℕ → ℕ → List Row → ℕ
how_many out a q rows = tally (names out a q) rows

-- "an in row of this session at a has peer q"
unfoldable pub admits : List Row → ℕ → ℕ → Bool
admits rows a q = list_any (names false a q) rows

-- the place of an association's users: in the order node, in before out, peer
abbrev pub users_place : Bool → ℕ → ℕ → ℕ
users_place out a q = 64 * (a - 1) + cond out 32 0 + (q - 1)

-- the association whose users are at place p, below 2,048: whether it is an Out, its node, its peer
abbrev pub place_out : ℕ → Bool
place_out p = leb 32 (p % 64)

abbrev pub place_node : ℕ → ℕ
place_node p = p / 64 + 1

abbrev pub place_peer : ℕ → ℕ
place_peer p = p % 32 + 1

abbrev pub are_nodes : ℕ → ℕ → Bool
are_nodes a q = is_node a && is_node q

-- the users stored of In(a, q), or of Out(a, q); 0 unless a and q are both nodes
unfoldable pub users_of : List ℕ → Bool → ℕ → ℕ → ℕ
users_of l out a q = cond (are_nodes a q) (get_or l (users_place out a q) 0) 0

-- "An association stands while its users are above 0."
abbrev pub stands : List ℕ → Bool → ℕ → ℕ → Bool
stands l out a q = ltb 0 (users_of l out a q)

-- the association that the row names stands
abbrev pub row_stands : List ℕ → Row → Bool
row_stands l r = stands l r.out r.node r.peers.first

-- the users of the association that the row names, changed by f
unfoldable pub with_users : (ℕ → ℕ) → List ℕ → Row → List ℕ
with_users f l r =
    let at = users_place r.out r.node r.peers.first in
    cond (are_nodes r.node r.peers.first) (set l at (f (get_or l at 0))) l

-- "a row added .. raises them by one"; the table holds 65,535 at most
abbrev pub one_more : ℕ → ℕ
one_more n = cond (ltb n 65535) (n + 1) n

-- "a row removed lowers them by one"
abbrev pub one_less : ℕ → ℕ
one_less n = n - 1

abbrev pub raised : List ℕ → List Row → List ℕ
raised l rows = fold (with_users one_more) l rows

abbrev pub lowered : List ℕ → List Row → List ℕ
lowered l rows = fold (with_users one_less) l rows
