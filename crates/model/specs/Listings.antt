-- Document 01's listings A to I and further examples: each call's line, and what it writes. That they hold is stated in ListingsHold.
-- Assumes nothing.
use Rattle.std.specs.Prelude.{ℕ, ◌+◌, cond, List, [], ◌∷◌, ◌++◌, map, eqb}
use Prim.Native.Char.{code}
use Prim.Native.String.{String}
use Rattle.forms.specs.Bytes.{bytes}

-- a call's line, and the bytes that it writes
pub record Exchange : Type 0 where
  pub line : List ℕ
  pub written : List ℕ

-- the line and the lines written, as they stand; the last newline is added
infix 70 ◌⇒◌
abbrev pub ◌⇒◌ : String → String → Exchange
q ⇒ a = record { line = bytes q; written = bytes a ++ bytes "\n" }

-- nothing is written
abbrev pub silent : String → Exchange
silent q = record { line = bytes q; written = [] }

abbrev pub Listing : Type 0
Listing = List Exchange

-- in a line with no other u, the digit of session u for the letter u
abbrev pub digit_for_u : ℕ → List ℕ → List ℕ
digit_for_u u = map (λ b. cond (eqb b (code "u")) (code "0" + u) b)

-- the exchanges of session u, which is the letter u in their lines
abbrev pub session : ℕ → Listing → Listing
session u = map (λ e. record { line = digit_for_u u e.line; written = e.written })

-- ---- shared beginnings

-- A's nodes and route
abbrev pub one_way : Listing
one_way = "(node 1 host (has) (needs))" ⇒ "(ok)" ∷ "(node 2 host (has) (needs))" ⇒ "(ok)" ∷ "(route 1 2 2)" ⇒ "(ok)" ∷ []

-- B's pair: "A's nodes and route, then (route 2 1 1)"
abbrev pub pair : Listing
pair = one_way ++ "(route 2 1 1)" ⇒ "(ok)" ∷ []

-- a session's first establishment, "only stepping the lowest item that isn't a wait": until item 10, the responder's auth;
abbrev pub to_auth : Listing
to_auth =
    "(step u 1)" ⇒ "(made 2)" ∷ "(step u 2)" ⇒ "(made 3 4)" ∷ "(step u 4)" ⇒ "(made 5 6)" ∷ "(step u 5)" ⇒ "(made 7)"
    ∷ "(step u 7)" ⇒ "(made 8)" ∷ "(step u 8)" ⇒ "(made 9)" ∷ "(step u 9)" ⇒ "(made 10)"
    ∷ []

-- then through item 11, the responder's grant;
abbrev pub to_grant : Listing
to_grant = to_auth ++ "(step u 10)" ⇒ "(made 11)" ∷ "(step u 11)" ⇒ "(made 12)" ∷ []

-- then through items 17 and 18, the initiator's grant and ack
abbrev pub to_ack : Listing
to_ack =
    to_grant
    ++ "(step u 12)" ⇒ "(made 13)" ∷ "(step u 13)" ⇒ "(made 14)" ∷ "(step u 14)" ⇒ "(made 15)" ∷ "(step u 15)" ⇒ "(made 16)"
    ∷ "(step u 16)" ⇒ "(made 17)" ∷ "(step u 17)" ⇒ "(made 18)" ∷ "(step u 18)" ⇒ "(made 19)"
    ∷ []

-- and through item 22, with which a session of one tunnel is open
abbrev pub one_tunnel : Listing
one_tunnel =
    to_ack
    ++ "(step u 19)" ⇒ "(made 20)" ∷ "(step u 20)" ⇒ "(made 21)" ∷ "(step u 21)" ⇒ "(made 22)" ∷ "(step u 22)" ⇒ "(opened)"
    ∷ []

-- a session of the pair, from its open to stage open
abbrev pub to_open : Listing
to_open = "(open u 1 2)" ⇒ "(made 1)" ∷ one_tunnel

-- session 1 through the responder's grant, then data from node 1 to node 2
abbrev pub data_at_grant : Listing
data_at_grant =
    "(open 1 1 2)" ⇒ "(made 1)" ∷ session 1 to_grant
    ++ "(send 1 0 77)" ⇒ "(made 13)" ∷ "(step 1 13)" ⇒ "(made 14)" ∷ "(step 1 14)" ⇒ "(made 15)" ∷ "(step 1 15)" ⇒ "(made 16)"
    ∷ "(step 1 16)" ⇒ "(lost 4)"
    ∷ []

-- ---- A to I

-- "The desk program reads from standard input"
abbrev pub listing_a : Listing
listing_a =
    one_way
    ++ "(open 1 1 2)" ⇒ "(made 1)" ∷ "(step 1 1)" ⇒ "(made 2)" ∷ "(step 1 2)" ⇒ "(made 3 4)" ∷ "(step 1 3)" ⇒ "(no 12)"
    ∷ "(step 1 1)" ⇒ "(no 11)" ∷ "(close 1)" ⇒ "(closed)" ∷ "(step 1 4)" ⇒ "(no 7)" ∷ "(open 1 1 2)" ⇒ "(made 5)"
    ∷ []

-- "item 25 answers (opened)": with #107 "case B opens at item 22"
abbrev pub listing_b : Listing
listing_b = pair ++ session 1 to_open

-- "data sent after the responder's grant that reaches node 2 before the initiator's: lost 4"
abbrev pub listing_c : Listing
listing_c = pair ++ data_at_grant

-- "The same after session 2 has reached stage open between these two nodes: lost 4 at the same step"
abbrev pub listing_d : Listing
listing_d = pair ++ session 2 to_open ++ data_at_grant

-- "Data at wire before any row, received after all: lost 5": item 3 at wire, item 26 at up
abbrev pub listing_e : Listing
listing_e =
    pair
    ++ "(open 1 1 2)" ⇒ "(made 1)" ∷ "(send 1 0 77)" ⇒ "(made 2)" ∷ "(step 1 2)" ⇒ "(made 3)" ∷ "(step 1 1)" ⇒ "(made 4)"
    ∷ "(step 1 4)" ⇒ "(made 5 6)" ∷ "(step 1 6)" ⇒ "(made 7 8)" ∷ "(step 1 7)" ⇒ "(made 9)" ∷ "(step 1 9)" ⇒ "(made 10)"
    ∷ "(step 1 10)" ⇒ "(made 11)" ∷ "(step 1 11)" ⇒ "(made 12)" ∷ "(step 1 12)" ⇒ "(made 13)" ∷ "(step 1 13)" ⇒ "(made 14)"
    ∷ "(step 1 14)" ⇒ "(made 15)" ∷ "(step 1 15)" ⇒ "(made 16)" ∷ "(step 1 16)" ⇒ "(made 17)" ∷ "(step 1 17)" ⇒ "(made 18)"
    ∷ "(step 1 18)" ⇒ "(made 19)" ∷ "(step 1 19)" ⇒ "(made 20)" ∷ "(step 1 20)" ⇒ "(made 21)" ∷ "(step 1 21)" ⇒ "(made 22)"
    ∷ "(step 1 22)" ⇒ "(made 23)" ∷ "(step 1 23)" ⇒ "(made 24)" ∷ "(step 1 24)" ⇒ "(opened)"
    ∷ "(step 1 3)" ⇒ "(made 25)" ∷ "(step 1 25)" ⇒ "(made 26)" ∷ "(step 1 26)" ⇒ "(lost 5)"
    ∷ []

-- "As B, but node 1 needs 5 and node 2 lacks it: denied at item 11", with #107 "at item 10"
abbrev pub listing_f : Listing
listing_f =
    "(node 1 host (has) (needs 5))" ⇒ "(ok)" ∷ "(node 2 host (has) (needs))" ⇒ "(ok)" ∷ "(route 1 2 2)" ⇒ "(ok)"
    ∷ "(route 2 1 1)" ⇒ "(ok)" ∷ "(open 1 1 2)" ⇒ "(made 1)" ∷ session 1 to_auth
    ++ "(step 1 10)" ⇒ "(denied)" ∷ []

-- "items 1 to 32 move, 33 is lost 2"
abbrev pub listing_g : Listing
listing_g =
    "(node 1 host (has) (needs))" ⇒ "(ok)" ∷ "(node 2 host (has) (needs))" ⇒ "(ok)" ∷ "(node 3 host (has) (needs))" ⇒ "(ok)"
    ∷ "(route 1 3 2)" ⇒ "(ok)" ∷ "(route 2 3 1)" ⇒ "(ok)" ∷ "(open 1 1 3)" ⇒ "(made 1)"
    ∷ "(step 1 1)" ⇒ "(made 2)" ∷ "(step 1 2)" ⇒ "(made 3)" ∷ "(step 1 3)" ⇒ "(made 4)" ∷ "(step 1 4)" ⇒ "(made 5)"
    ∷ "(step 1 5)" ⇒ "(made 6)" ∷ "(step 1 6)" ⇒ "(made 7)" ∷ "(step 1 7)" ⇒ "(made 8)" ∷ "(step 1 8)" ⇒ "(made 9)"
    ∷ "(step 1 9)" ⇒ "(made 10)" ∷ "(step 1 10)" ⇒ "(made 11)" ∷ "(step 1 11)" ⇒ "(made 12)" ∷ "(step 1 12)" ⇒ "(made 13)"
    ∷ "(step 1 13)" ⇒ "(made 14)" ∷ "(step 1 14)" ⇒ "(made 15)" ∷ "(step 1 15)" ⇒ "(made 16)" ∷ "(step 1 16)" ⇒ "(made 17)"
    ∷ "(step 1 17)" ⇒ "(made 18)" ∷ "(step 1 18)" ⇒ "(made 19)" ∷ "(step 1 19)" ⇒ "(made 20)" ∷ "(step 1 20)" ⇒ "(made 21)"
    ∷ "(step 1 21)" ⇒ "(made 22)" ∷ "(step 1 22)" ⇒ "(made 23)" ∷ "(step 1 23)" ⇒ "(made 24)" ∷ "(step 1 24)" ⇒ "(made 25)"
    ∷ "(step 1 25)" ⇒ "(made 26)" ∷ "(step 1 26)" ⇒ "(made 27)" ∷ "(step 1 27)" ⇒ "(made 28)" ∷ "(step 1 28)" ⇒ "(made 29)"
    ∷ "(step 1 29)" ⇒ "(made 30)" ∷ "(step 1 30)" ⇒ "(made 31)" ∷ "(step 1 31)" ⇒ "(made 32)" ∷ "(step 1 32)" ⇒ "(made 33)"
    ∷ "(step 1 33)" ⇒ "(lost 2)"
    ∷ []

-- "Two sessions reach stage open on B's pair, one closes: users of each association 2, then 1"
abbrev pub listing_h : Listing
listing_h =
    pair ++ session 1 to_open ++ session 2 to_open
    ++ "(show)" ⇒ "(assoc 1 in 2 257 2)\n(assoc 1 out 2 288 2)\n(assoc 2 in 1 288 2)\n(assoc 2 out 1 257 2)\n(end)"
    ∷ "(close 1)" ⇒ "(closed)"
    ∷ "(show)" ⇒ "(assoc 1 in 2 257 1)\n(assoc 1 out 2 288 1)\n(assoc 2 in 1 288 1)\n(assoc 2 out 1 257 1)\n(end)"
    ∷ []

-- "Node 32 is accepted, 33 is (no 2)"
abbrev pub listing_i : Listing
listing_i = "(node 32 host (has) (needs))" ⇒ "(ok)" ∷ "(node 33 host (has) (needs))" ⇒ "(no 2)" ∷ []

abbrev pub listings : List Listing
listings = listing_a ∷ listing_b ∷ listing_c ∷ listing_d ∷ listing_e ∷ listing_f ∷ listing_g ∷ listing_h ∷ listing_i ∷ []

-- ---- further examples

-- the second establishment of a session whose path has gateways, and one more step;
abbrev pub second_tunnel : Listing
second_tunnel =
    "(step u 20)" ⇒ "(made 21 22)" ∷ "(step u 22)" ⇒ "(made 23 24)" ∷ "(step u 23)" ⇒ "(made 25)" ∷ "(step u 25)" ⇒ "(made 26)"
    ∷ "(step u 26)" ⇒ "(made 27)" ∷ "(step u 27)" ⇒ "(made 28)" ∷ "(step u 28)" ⇒ "(made 29)" ∷ "(step u 29)" ⇒ "(made 30)"
    ∷ "(step u 30)" ⇒ "(made 31)" ∷ "(step u 31)" ⇒ "(made 32)" ∷ "(step u 32)" ⇒ "(made 33)" ∷ "(step u 33)" ⇒ "(made 34)"
    ∷ "(step u 34)" ⇒ "(made 35)" ∷ "(step u 35)" ⇒ "(made 36)" ∷ "(step u 36)" ⇒ "(made 37)" ∷ "(step u 37)" ⇒ "(made 38)"
    ∷ []

-- the first two;
abbrev pub two_tunnels : Listing
two_tunnels = to_ack ++ "(step u 19)" ⇒ "(made 20)" ∷ second_tunnel

-- and the third, up to its ack
abbrev pub third_tunnel : Listing
third_tunnel =
    "(step u 38)" ⇒ "(made 39 40)" ∷ "(step u 40)" ⇒ "(made 41 42)" ∷ "(step u 41)" ⇒ "(made 43)" ∷ "(step u 43)" ⇒ "(made 44)"
    ∷ "(step u 44)" ⇒ "(made 45)" ∷ "(step u 45)" ⇒ "(made 46)" ∷ "(step u 46)" ⇒ "(made 47)" ∷ "(step u 47)" ⇒ "(made 48)"
    ∷ "(step u 48)" ⇒ "(made 49)" ∷ "(step u 49)" ⇒ "(made 50)" ∷ "(step u 50)" ⇒ "(made 51)" ∷ "(step u 51)" ⇒ "(made 52)"
    ∷ "(step u 52)" ⇒ "(made 53)" ∷ "(step u 53)" ⇒ "(made 54)"
    ∷ []

-- data goes through one tunnel to a gateway, and through the next to the server
abbrev pub through_gateway : Listing
through_gateway =
    "(node 1 host (has 1 2) (needs 3))" ⇒ "(ok)" ∷ "(node 2 gate (has 3 63) (needs 2))" ⇒ "(ok)" ∷ "(node 3 host (has 0 2) (needs 63))" ⇒ "(ok)"
    ∷ "(route 1 2 2)" ⇒ "(ok)" ∷ "(route 1 3 2)" ⇒ "(ok)" ∷ "(route 2 1 1)" ⇒ "(ok)" ∷ "(route 2 3 3)" ⇒ "(ok)"
    ∷ "(route 3 2 2)" ⇒ "(ok)" ∷ "(route 3 1 2)" ⇒ "(ok)" ∷ "(open 1 1 3)" ⇒ "(made 1)" ∷ session 1 two_tunnels
    ++ "(step 1 38)" ⇒ "(made 39)" ∷ "(step 1 39)" ⇒ "(made 40)" ∷ "(step 1 40)" ⇒ "(made 41)" ∷ "(step 1 41)" ⇒ "(made 42)"
    ∷ "(step 1 42)" ⇒ "(made 43)" ∷ "(step 1 43)" ⇒ "(made 44)" ∷ "(step 1 44)" ⇒ "(opened)"
    ∷ "(send 1 0 77)" ⇒ "(made 45)"
    ∷ "(step 1 45)" ⇒ "(made 46)" ∷ "(step 1 46)" ⇒ "(made 47)" ∷ "(step 1 47)" ⇒ "(made 48)" ∷ "(step 1 48)" ⇒ "(made 49)"
    ∷ "(step 1 49)" ⇒ "(made 50)" ∷ "(step 1 50)" ⇒ "(made 51)" ∷ "(step 1 51)" ⇒ "(made 52)" ∷ "(step 1 52)" ⇒ "(delivered 77)"
    ∷ []

-- routes that send a Disc from 1 to 4 back and forth between gateways 2 and 3
abbrev pub circle : Listing
circle =
    "(node 1 host (has) (needs))" ⇒ "(ok)" ∷ "(node 2 gate (has) (needs))" ⇒ "(ok)" ∷ "(node 3 gate (has) (needs))" ⇒ "(ok)"
    ∷ "(node 4 host (has) (needs))" ⇒ "(ok)" ∷ "(route 1 2 2)" ⇒ "(ok)" ∷ "(route 1 4 2)" ⇒ "(ok)" ∷ "(route 2 1 1)" ⇒ "(ok)"
    ∷ "(route 2 3 3)" ⇒ "(ok)" ∷ "(route 2 4 3)" ⇒ "(ok)" ∷ "(route 3 2 2)" ⇒ "(ok)" ∷ "(route 3 4 2)" ⇒ "(ok)"
    ∷ []

-- "the newest": on the circle node 2 is initiator with peer 1 and then with peer 3. Both its in rows match the data from node 1,
-- and the older one would let it pass
abbrev pub newest_of_two_rows : Listing
newest_of_two_rows =
    circle ++ "(open 1 1 4)" ⇒ "(made 1)" ∷ session 1 two_tunnels
    ++ session 1 third_tunnel
    ++ "(send 1 0 77)" ⇒ "(made 55)" ∷ "(step 1 55)" ⇒ "(made 56)" ∷ "(step 1 56)" ⇒ "(made 57)" ∷ "(step 1 57)" ⇒ "(made 58)"
    ∷ "(step 1 58)" ⇒ "(lost 5)"
    ∷ []

-- "with 8 establishments begun, lost 6": on the circle the Disc comes to a ninth
abbrev pub exhausted : Listing
exhausted =
    circle ++ "(open 1 1 4)" ⇒ "(made 1)" ∷ session 1 two_tunnels ++ session 1 third_tunnel
    ++ "(step 1 54)" ⇒ "(made 55)" ∷ "(step 1 55)" ⇒ "(made 56)" ∷ "(step 1 56)" ⇒ "(made 57 58)" ∷ "(step 1 58)" ⇒ "(made 59 60)"
    ∷ "(step 1 59)" ⇒ "(made 61)" ∷ "(step 1 61)" ⇒ "(made 62)" ∷ "(step 1 62)" ⇒ "(made 63)" ∷ "(step 1 63)" ⇒ "(made 64)"
    ∷ "(step 1 64)" ⇒ "(made 65)" ∷ "(step 1 65)" ⇒ "(made 66)" ∷ "(step 1 66)" ⇒ "(made 67)" ∷ "(step 1 67)" ⇒ "(made 68)"
    ∷ "(step 1 68)" ⇒ "(made 69)" ∷ "(step 1 69)" ⇒ "(made 70)" ∷ "(step 1 70)" ⇒ "(made 71)" ∷ "(step 1 71)" ⇒ "(made 72)"
    ∷ "(step 1 72)" ⇒ "(made 73)" ∷ "(step 1 73)" ⇒ "(made 74)" ∷ "(step 1 74)" ⇒ "(made 75 76)" ∷ "(step 1 76)" ⇒ "(made 77 78)"
    ∷ "(step 1 77)" ⇒ "(made 79)" ∷ "(step 1 79)" ⇒ "(made 80)" ∷ "(step 1 80)" ⇒ "(made 81)" ∷ "(step 1 81)" ⇒ "(made 82)"
    ∷ "(step 1 82)" ⇒ "(made 83)" ∷ "(step 1 83)" ⇒ "(made 84)" ∷ "(step 1 84)" ⇒ "(made 85)" ∷ "(step 1 85)" ⇒ "(made 86)"
    ∷ "(step 1 86)" ⇒ "(made 87)" ∷ "(step 1 87)" ⇒ "(made 88)" ∷ "(step 1 88)" ⇒ "(made 89)" ∷ "(step 1 89)" ⇒ "(made 90)"
    ∷ "(step 1 90)" ⇒ "(made 91)" ∷ "(step 1 91)" ⇒ "(made 92)" ∷ "(step 1 92)" ⇒ "(made 93 94)" ∷ "(step 1 94)" ⇒ "(made 95 96)"
    ∷ "(step 1 95)" ⇒ "(made 97)" ∷ "(step 1 97)" ⇒ "(made 98)" ∷ "(step 1 98)" ⇒ "(made 99)" ∷ "(step 1 99)" ⇒ "(made 100)"
    ∷ "(step 1 100)" ⇒ "(made 101)" ∷ "(step 1 101)" ⇒ "(made 102)" ∷ "(step 1 102)" ⇒ "(made 103)" ∷ "(step 1 103)" ⇒ "(made 104)"
    ∷ "(step 1 104)" ⇒ "(made 105)" ∷ "(step 1 105)" ⇒ "(made 106)" ∷ "(step 1 106)" ⇒ "(made 107)" ∷ "(step 1 107)" ⇒ "(made 108)"
    ∷ "(step 1 108)" ⇒ "(made 109)" ∷ "(step 1 109)" ⇒ "(made 110)" ∷ "(step 1 110)" ⇒ "(made 111 112)" ∷ "(step 1 112)" ⇒ "(made 113 114)"
    ∷ "(step 1 113)" ⇒ "(made 115)" ∷ "(step 1 115)" ⇒ "(made 116)" ∷ "(step 1 116)" ⇒ "(made 117)" ∷ "(step 1 117)" ⇒ "(made 118)"
    ∷ "(step 1 118)" ⇒ "(made 119)" ∷ "(step 1 119)" ⇒ "(made 120)" ∷ "(step 1 120)" ⇒ "(made 121)" ∷ "(step 1 121)" ⇒ "(made 122)"
    ∷ "(step 1 122)" ⇒ "(made 123)" ∷ "(step 1 123)" ⇒ "(made 124)" ∷ "(step 1 124)" ⇒ "(made 125)" ∷ "(step 1 125)" ⇒ "(made 126)"
    ∷ "(step 1 126)" ⇒ "(made 127)" ∷ "(step 1 127)" ⇒ "(made 128)" ∷ "(step 1 128)" ⇒ "(made 129 130)" ∷ "(step 1 130)" ⇒ "(made 131 132)"
    ∷ "(step 1 131)" ⇒ "(made 133)" ∷ "(step 1 133)" ⇒ "(made 134)" ∷ "(step 1 134)" ⇒ "(made 135)" ∷ "(step 1 135)" ⇒ "(made 136)"
    ∷ "(step 1 136)" ⇒ "(made 137)" ∷ "(step 1 137)" ⇒ "(made 138)" ∷ "(step 1 138)" ⇒ "(made 139)" ∷ "(step 1 139)" ⇒ "(made 140)"
    ∷ "(step 1 140)" ⇒ "(made 141)" ∷ "(step 1 141)" ⇒ "(made 142)" ∷ "(step 1 142)" ⇒ "(made 143)" ∷ "(step 1 143)" ⇒ "(made 144)"
    ∷ "(step 1 144)" ⇒ "(made 145)" ∷ "(step 1 145)" ⇒ "(made 146)" ∷ "(step 1 146)" ⇒ "(lost 6)"
    ∷ []

-- a session from 1 to 4 through gateways 2 and 3: its first tunnel, and the Disc that its ack wrote, which is item 20 at node 3
abbrev pub first_of_three : Listing
first_of_three =
    "(node 1 host (has) (needs))" ⇒ "(ok)" ∷ "(node 2 gate (has) (needs))" ⇒ "(ok)" ∷ "(node 3 gate (has) (needs))" ⇒ "(ok)" ∷ "(node 4 host (has) (needs))" ⇒ "(ok)"
    ∷ "(route 1 2 2)" ⇒ "(ok)" ∷ "(route 1 4 2)" ⇒ "(ok)" ∷ "(route 2 1 1)" ⇒ "(ok)" ∷ "(route 2 3 3)" ⇒ "(ok)"
    ∷ "(route 2 4 3)" ⇒ "(ok)" ∷ "(route 3 2 2)" ⇒ "(ok)" ∷ "(route 3 4 4)" ⇒ "(ok)" ∷ "(route 4 3 3)" ⇒ "(ok)"
    ∷ "(route 4 1 3)" ⇒ "(ok)" ∷ "(route 3 1 2)" ⇒ "(ok)"
    ∷ "(open 1 1 4)" ⇒ "(made 1)" ∷ session 1 to_ack
    ++ "(step 1 19)" ⇒ "(made 20)" ∷ []

-- then data in that tunnel
abbrev pub data_in_first_of_three : Listing
data_in_first_of_three = first_of_three ++ "(send 1 0 77)" ⇒ "(made 21)" ∷ "(step 1 21)" ⇒ "(made 22)" ∷ "(step 1 22)" ⇒ "(made 23)" ∷ []

-- which comes out of it at gateway 2 and, with no tunnel on from there, leaves bare (#108: with one hop less) and is lost 1
abbrev pub bare_out_again : Listing
bare_out_again =
    data_in_first_of_three
    ++ "(step 1 23)" ⇒ "(made 24)" ∷ "(step 1 24)" ⇒ "(made 25)" ∷ "(step 1 25)" ⇒ "(made 26)" ∷ "(step 1 26)" ⇒ "(lost 1)" ∷ []

-- or the other two tunnels, and Done back through all three
abbrev pub three_tunnels : Listing
three_tunnels =
    first_of_three ++ session 1 second_tunnel ++ session 1 third_tunnel
    ++ "(step 1 54)" ⇒ "(made 55)" ∷ "(step 1 55)" ⇒ "(made 56)" ∷ "(step 1 56)" ⇒ "(made 57)" ∷ "(step 1 57)" ⇒ "(made 58)"
    ∷ "(step 1 58)" ⇒ "(made 59)" ∷ "(step 1 59)" ⇒ "(made 60)" ∷ "(step 1 60)" ⇒ "(made 61)" ∷ "(step 1 61)" ⇒ "(made 62)"
    ∷ "(step 1 62)" ⇒ "(made 63)" ∷ "(step 1 63)" ⇒ "(made 64)" ∷ "(step 1 64)" ⇒ "(made 65)" ∷ "(step 1 65)" ⇒ "(made 66)"
    ∷ "(step 1 66)" ⇒ "(opened)"
    ∷ []

-- data from the server, "with 1"
abbrev pub server_sends : Listing
server_sends =
    pair ++ session 1 to_open
    ++ "(send 1 1 5)" ⇒ "(made 23)" ∷ "(step 1 23)" ⇒ "(made 24)" ∷ "(step 1 24)" ⇒ "(made 25)" ∷ "(step 1 25)" ⇒ "(made 26)"
    ∷ "(step 1 26)" ⇒ "(delivered 5)"
    ∷ []

-- lost 1 and lost 3
abbrev pub losses_at_a_gateway : Listing
losses_at_a_gateway =
    "(node 1 host (has) (needs))" ⇒ "(ok)" ∷ "(node 2 gate (has) (needs))" ⇒ "(ok)"
    ∷ "(node 3 host (has) (needs))" ⇒ "(ok)" ∷ "(route 1 3 2)" ⇒ "(ok)" ∷ "(open 1 1 3)" ⇒ "(made 1)"
    ∷ "(send 1 0 77)" ⇒ "(made 2)" ∷ "(step 1 2)" ⇒ "(made 3)" ∷ "(step 1 3)" ⇒ "(made 4)" ∷ "(step 1 4)" ⇒ "(lost 1)"
    ∷ "(step 1 1)" ⇒ "(made 5)" ∷ "(step 1 5)" ⇒ "(made 6 7)" ∷ "(step 1 7)" ⇒ "(made 8 9)"
    ∷ "(step 1 8)" ⇒ "(made 10)" ∷ "(step 1 10)" ⇒ "(lost 3)"
    ∷ []

-- of several refusals that fit, the first in document 01's order; 5 stays after a close
abbrev pub refusals_in_order : Listing
refusals_in_order =
    "" ⇒ "(no 1)" ∷ "(show )" ⇒ "(no 1)" ∷ "(step 9 1)" ⇒ "(no 2)" ∷ "(step 1 0)" ⇒ "(no 2)"
    ∷ "(open 1 1 3)" ⇒ "(no 4)" ∷ "(route 1 3 2)" ⇒ "(no 4)" ∷ "(node 1 host (has) (needs))" ⇒ "(ok)"
    ∷ "(node 1 gate (has) (needs))" ⇒ "(no 3)" ∷ "(node 2 gate (has) (needs))" ⇒ "(ok)"
    ∷ "(node 3 host (has) (needs))" ⇒ "(ok)" ∷ "(route 1 1 2)" ⇒ "(no 8)" ∷ "(route 1 3 1)" ⇒ "(no 8)"
    ∷ "(route 9 9 9)" ⇒ "(no 4)" ∷ "(route 1 3 9)" ⇒ "(no 4)"
    ∷ "(route 1 3 2)" ⇒ "(ok)" ∷ "(route 1 3 3)" ⇒ "(no 3)" ∷ "(route 1 3 1)" ⇒ "(no 8)" ∷ "(open 1 2 2)" ⇒ "(no 8)" ∷ "(open 1 1 2)" ⇒ "(no 9)"
    ∷ "(step 1 1)" ⇒ "(no 7)" ∷ "(send 1 0 0)" ⇒ "(no 7)" ∷ "(close 1)" ⇒ "(no 7)" ∷ "(open 1 1 3)" ⇒ "(made 1)"
    ∷ "(open 1 4 4)" ⇒ "(no 6)" ∷ "(node 1 host (has) (needs))" ⇒ "(no 5)" ∷ "(route 1 9 1)" ⇒ "(no 5)"
    ∷ "(step 1 2)" ⇒ "(no 11)" ∷ "(step 1 1)" ⇒ "(made 2)" ∷ "(step 1 2)" ⇒ "(made 3 4)" ∷ "(step 1 3)" ⇒ "(no 12)"
    ∷ "(send 1 0 1)" ⇒ "(made 5)" ∷ "(send 1 0 2)" ⇒ "(made 6)" ∷ "(send 1 0 3)" ⇒ "(made 7)"
    ∷ "(send 1 0 4)" ⇒ "(made 8)" ∷ "(send 1 0 5)" ⇒ "(made 9)" ∷ "(send 1 0 6)" ⇒ "(made 10)"
    ∷ "(send 1 0 7)" ⇒ "(made 11)" ∷ "(send 1 0 8)" ⇒ "(made 12)" ∷ "(send 1 0 9)" ⇒ "(made 13)"
    ∷ "(send 1 0 10)" ⇒ "(made 14)" ∷ "(send 1 0 11)" ⇒ "(made 15)" ∷ "(send 1 0 12)" ⇒ "(made 16)"
    ∷ "(send 1 0 13)" ⇒ "(no 13)" ∷ "(close 1)" ⇒ "(closed)" ∷ "(node 4 host (has) (needs))" ⇒ "(no 5)"
    ∷ []

-- #101: whatever the order of the calls, the text has its own; refused calls leave no trace in it, and an open none
abbrev pub network_given_back : Listing
network_given_back =
    silent "(net)" ∷ "(net 1)" ⇒ "(no 1)" ∷ "(node 3 host (has 7) (needs))" ⇒ "(ok)" ∷ "(net)" ⇒ "(node 3 host (has 7) (needs))"
    ∷ "(node 2 gate (has 0 9 10 63) (needs 5))" ⇒ "(ok)" ∷ "(route 3 2 2)" ⇒ "(ok)" ∷ "(node 1 host (has) (needs))" ⇒ "(ok)"
    ∷ "(route 3 1 2)" ⇒ "(ok)" ∷ "(route 2 3 3)" ⇒ "(ok)" ∷ "(route 1 3 2)" ⇒ "(ok)" ∷ "(route 1 3 3)" ⇒ "(no 3)"
    ∷ "(node 1 gate (has 1) (needs))" ⇒ "(no 3)" ∷ "(open 1 1 3)" ⇒ "(made 1)" ∷ "(step 1 1)" ⇒ "(made 2)"
    ∷ "(net)"
    ⇒ "(node 1 host (has) (needs))\n(node 2 gate (has 0 9 10 63) (needs 5))\n(node 3 host (has 7) (needs))\n(route 1 3 2)\n(route 2 3 3)\n(route 3 1 2)\n(route 3 2 2)"
    ∷ "(step 1 2)" ⇒ "(made 3 4)" ∷ "(node 4 host (has) (needs))" ⇒ "(no 5)"
    ∷ []

-- #102: though node 10 came first, node 2 is shown before it, the peer 2 before the peer 10, and in before out
abbrev pub shown_in_order : Listing
shown_in_order =
    pair
    ++ "(node 10 host (has) (needs))" ⇒ "(ok)" ∷ "(route 1 10 10)" ⇒ "(ok)" ∷ "(route 10 1 1)" ⇒ "(ok)"
    ∷ "(open 1 1 10)" ⇒ "(made 1)" ∷ session 1 one_tunnel
    ++ "(show)" ⇒ "(assoc 1 in 10 265 1)\n(assoc 1 out 10 544 1)\n(assoc 10 in 1 544 1)\n(assoc 10 out 1 265 1)\n(end)"
    ∷ session 2 to_open
    ++ "(show)"
    ⇒ "(assoc 1 in 2 257 1)\n(assoc 1 in 10 265 1)\n(assoc 1 out 2 288 1)\n(assoc 1 out 10 544 1)\n(assoc 2 in 1 288 1)\n(assoc 2 out 1 257 1)\n(assoc 10 in 1 544 1)\n(assoc 10 out 1 265 1)\n(end)"
    ∷ []

-- #103: the Req is lost, and what is left are its two waits, until a close, and data that was sent since
abbrev pub waits_left : Listing
waits_left =
    one_way
    ++ "(open 1 1 2)" ⇒ "(made 1)" ∷ "(step 1 1)" ⇒ "(made 2)" ∷ "(step 1 2)" ⇒ "(made 3 4)" ∷ "(step 1 4)" ⇒ "(made 5 6)"
    ∷ "(step 1 5)" ⇒ "(made 7)" ∷ "(step 1 7)" ⇒ "(lost 3)" ∷ "(step 1 3)" ⇒ "(no 12)" ∷ "(step 1 6)" ⇒ "(no 12)"
    ∷ "(send 1 0 77)" ⇒ "(made 8)" ∷ "(step 1 8)" ⇒ "(made 9)" ∷ "(step 1 7)" ⇒ "(no 11)"
    ∷ []

-- #104: node 1 goes to node 2 by a route of its own, and to node 3 by its default; node 3 has neither
abbrev pub default_way_out : Listing
default_way_out =
    "(node 1 host (has) (needs))" ⇒ "(ok)" ∷ "(node 2 host (has) (needs))" ⇒ "(ok)" ∷ "(node 3 host (has) (needs))" ⇒ "(ok)"
    ∷ "(route 0 2 3)" ⇒ "(no 2)" ∷ "(route 1 2 0)" ⇒ "(no 2)" ∷ "(route 1 0 4)" ⇒ "(no 4)" ∷ "(route 1 0 1)" ⇒ "(no 8)"
    ∷ "(route 1 2 2)" ⇒ "(ok)" ∷ "(route 1 0 3)" ⇒ "(ok)" ∷ "(route 1 0 3)" ⇒ "(no 3)" ∷ "(route 1 0 2)" ⇒ "(no 3)"
    ∷ "(net)" ⇒ "(node 1 host (has) (needs))\n(node 2 host (has) (needs))\n(node 3 host (has) (needs))\n(route 1 0 3)\n(route 1 2 2)"
    ∷ "(open 1 0 2)" ⇒ "(no 2)" ∷ "(open 1 1 2)" ⇒ "(made 1)" ∷ "(step 1 1)" ⇒ "(made 2)" ∷ "(step 1 2)" ⇒ "(made 3 4)"
    ∷ "(open 2 1 3)" ⇒ "(made 1)" ∷ "(step 2 1)" ⇒ "(made 2 default)" ∷ "(step 2 2)" ⇒ "(made 3 4)" ∷ "(step 2 4)" ⇒ "(made 5 6)"
    ∷ "(step 2 5)" ⇒ "(made 7)" ∷ "(step 2 7)" ⇒ "(lost 3)" ∷ "(route 3 0 1)" ⇒ "(no 5)"
    ∷ []

-- #107: 77 and 78 come bare to node 2 before it has a row. One step reads the rows as they stand then: 77, stepped before the
-- initiator's grant, is delivered; 78, stepped after it, is lost 5
abbrev pub rows_at_one_moment : Listing
rows_at_one_moment =
    pair ++ "(open 1 1 2)" ⇒ "(made 1)" ∷ session 1 to_auth
    ++ "(send 1 0 77)" ⇒ "(made 11)" ∷ "(step 1 11)" ⇒ "(made 12)" ∷ "(step 1 12)" ⇒ "(made 13)" ∷ "(step 1 13)" ⇒ "(made 14)"
    ∷ "(send 1 0 78)" ⇒ "(made 15)" ∷ "(step 1 15)" ⇒ "(made 16)" ∷ "(step 1 16)" ⇒ "(made 17)" ∷ "(step 1 17)" ⇒ "(made 18)"
    ∷ "(step 1 10)" ⇒ "(made 19)" ∷ "(step 1 19)" ⇒ "(made 20)" ∷ "(step 1 20)" ⇒ "(made 21)" ∷ "(step 1 21)" ⇒ "(made 22)"
    ∷ "(step 1 22)" ⇒ "(made 23)" ∷ "(step 1 23)" ⇒ "(made 24)" ∷ "(step 1 24)" ⇒ "(made 25)"
    ∷ "(step 1 14)" ⇒ "(delivered 77)" ∷ "(step 1 25)" ⇒ "(made 26)" ∷ "(step 1 18)" ⇒ "(lost 5)"
    ∷ []

abbrev pub further_examples : List Listing
further_examples =
    through_gateway ∷ newest_of_two_rows ∷ exhausted ∷ bare_out_again ∷ three_tunnels ∷ server_sends ∷ losses_at_a_gateway ∷ refusals_in_order
    ∷ network_given_back ∷ shown_in_order ∷ waits_left ∷ default_way_out ∷ rows_at_one_moment ∷ []
