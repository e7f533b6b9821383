-- Listings of request #109: tunnels that are taken down. That they hold is stated in ListingsHold. Assumes nothing.
use Rattle.std.specs.Prelude.{List, [], ◌∷◌, ◌++◌, take, drop}
use Rattle.model.specs.HopListings.{round_in_tunnels}
use Rattle.model.specs.Listings.{◌⇒◌, Listing, session, pair, to_ack, to_open, second_tunnel, two_tunnels, third_tunnel, through_gateway, circle, first_of_three, three_tunnels}

-- "16 busy, if an item naming that establishment pends", and 17 of another: both tried before each call of l
abbrev pub busy_before : Listing → Listing
busy_before [] = []
busy_before (e ∷ l) = "(drop 1 1)" ⇒ "(no 16)" ∷ "(drop 1 2)" ⇒ "(no 17)" ∷ e ∷ busy_before l

-- B, with a drop tried at every place until one is accepted, behind the ack. The Done then comes bare to node 1, and data bare to node 2
abbrev pub at_every_place : Listing
at_every_place =
    pair ++ "(drop 1 1)" ⇒ "(no 7)" ∷ "(open 1 1 2)" ⇒ "(made 1)" ∷ "(drop 1 1)" ⇒ "(no 17)" ∷ "(step 1 1)" ⇒ "(made 2)"
    ∷ "(drop 1 1)" ⇒ "(no 17)" ∷ "(step 1 2)" ⇒ "(made 3 4)" ∷ busy_before (drop 2 (session 1 to_ack))
    ++ "(drop 1 0)" ⇒ "(no 2)" ∷ "(drop 1 9)" ⇒ "(no 2)" ∷ "(drop 9 1)" ⇒ "(no 2)" ∷ "(drop 1)" ⇒ "(no 1)" ∷ "(drop 1 8)" ⇒ "(no 17)"
    ∷ "(show)" ⇒ "(assoc 1 in 2 257 1)\n(assoc 1 out 2 288 1)\n(assoc 2 in 1 288 1)\n(assoc 2 out 1 257 1)\n(end)"
    ∷ "(drop 1 1)" ⇒ "(closed)" ∷ "(show)" ⇒ "(end)" ∷ "(drop 1 1)" ⇒ "(no 17)"
    ∷ "(step 1 19)" ⇒ "(made 20)" ∷ "(step 1 20)" ⇒ "(made 21)" ∷ "(step 1 21)" ⇒ "(made 22)" ∷ "(step 1 22)" ⇒ "(opened)"
    ∷ "(send 1 0 77)" ⇒ "(made 23)" ∷ "(step 1 23)" ⇒ "(made 24)" ∷ "(step 1 24)" ⇒ "(made 25)" ∷ "(step 1 25)" ⇒ "(made 26)"
    ∷ "(step 1 26)" ⇒ "(delivered 77)"
    ∷ []

-- half a tunnel: node 1 grants, and node 2 needs a credential that node 1 lacks
abbrev pub half_a_tunnel : Listing
half_a_tunnel =
    "(node 1 host (has) (needs))" ⇒ "(ok)" ∷ "(node 2 host (has) (needs 5))" ⇒ "(ok)" ∷ "(route 1 2 2)" ⇒ "(ok)" ∷ "(route 2 1 1)" ⇒ "(ok)"
    ∷ "(open 1 1 2)" ⇒ "(made 1)" ∷ take 13 (session 1 to_ack)
    ++ "(drop 1 1)" ⇒ "(no 16)" ∷ "(step 1 16)" ⇒ "(denied)" ∷ "(show)" ⇒ "(assoc 1 in 2 257 1)\n(assoc 1 out 2 288 1)\n(end)"
    ∷ "(drop 1 1)" ⇒ "(closed)" ∷ "(show)" ⇒ "(end)" ∷ "(drop 1 1)" ⇒ "(no 17)"
    ∷ []

-- a Req that is lost leaves its ewait, which names the establishment until a close
abbrev pub busy_until_a_close : Listing
busy_until_a_close =
    take 3 pair ++ "(open 1 1 2)" ⇒ "(made 1)" ∷ take 4 (session 1 to_ack)
    ++ "(step 1 7)" ⇒ "(lost 3)" ∷ "(drop 1 1)" ⇒ "(no 16)" ∷ "(close 1)" ⇒ "(closed)" ∷ "(drop 1 1)" ⇒ "(no 7)"
    ∷ "(open 1 1 2)" ⇒ "(made 8)" ∷ "(drop 1 1)" ⇒ "(no 17)"
    ∷ []

-- two sessions share their associations: the drop of one leaves the other's rows and users, and its data
abbrev pub one_of_two_sessions : Listing
one_of_two_sessions =
    pair ++ session 1 to_open ++ session 2 to_open
    ++ "(show)" ⇒ "(assoc 1 in 2 257 2)\n(assoc 1 out 2 288 2)\n(assoc 2 in 1 288 2)\n(assoc 2 out 1 257 2)\n(end)"
    ∷ "(send 1 0 77)" ⇒ "(made 23)" ∷ "(step 1 23)" ⇒ "(made 24)" ∷ "(send 2 0 78)" ⇒ "(made 23)" ∷ "(step 2 23)" ⇒ "(made 24)"
    ∷ "(drop 1 1)" ⇒ "(closed)"
    ∷ "(show)" ⇒ "(assoc 1 in 2 257 1)\n(assoc 1 out 2 288 1)\n(assoc 2 in 1 288 1)\n(assoc 2 out 1 257 1)\n(end)"
    ∷ "(step 1 24)" ⇒ "(made 25)" ∷ "(step 1 25)" ⇒ "(made 26)" ∷ "(step 1 26)" ⇒ "(lost 4)"
    ∷ "(step 2 24)" ⇒ "(made 25)" ∷ "(step 2 25)" ⇒ "(made 26)" ∷ "(step 2 26)" ⇒ "(delivered 78)"
    ∷ []

-- the middle one of three tunnels is dropped: data in it is lost 4 at its end, and data from the server comes out of the third at gateway 3,
-- leaves bare and is lost 1
abbrev pub middle_of_three : Listing
middle_of_three =
    three_tunnels
    ++ "(send 1 0 77)" ⇒ "(made 67)" ∷ "(step 1 67)" ⇒ "(made 68)" ∷ "(step 1 68)" ⇒ "(made 69)" ∷ "(step 1 69)" ⇒ "(made 70)"
    ∷ "(step 1 70)" ⇒ "(made 71)" ∷ "(step 1 71)" ⇒ "(made 72)" ∷ "(drop 1 2)" ⇒ "(closed)" ∷ "(step 1 72)" ⇒ "(made 73)"
    ∷ "(step 1 73)" ⇒ "(made 74)" ∷ "(step 1 74)" ⇒ "(lost 4)"
    ∷ "(send 1 1 78)" ⇒ "(made 75)" ∷ "(step 1 75)" ⇒ "(made 76)" ∷ "(step 1 76)" ⇒ "(made 77)" ∷ "(step 1 77)" ⇒ "(made 78)"
    ∷ "(step 1 78)" ⇒ "(made 79)" ∷ "(step 1 79)" ⇒ "(made 80)" ∷ "(step 1 80)" ⇒ "(lost 1)"
    ∷ "(drop 1 2)" ⇒ "(no 17)"
    ∷ []

-- "The establishment still counts as begun": the next is 2, and has rows of its own
abbrev pub next_is_the_second : Listing
next_is_the_second =
    first_of_three ++ "(drop 1 1)" ⇒ "(closed)" ∷ session 1 second_tunnel
    ++ "(drop 1 1)" ⇒ "(no 17)"
    ∷ "(show)" ⇒ "(assoc 2 in 3 290 1)\n(assoc 2 out 3 321 1)\n(assoc 3 in 2 321 1)\n(assoc 3 out 2 290 1)\n(end)"
    ∷ "(drop 1 2)" ⇒ "(closed)" ∷ "(show)" ⇒ "(end)"
    ∷ []

-- the Done is item 38, on the wire at the server: with its tunnel dropped it is lost 4; with the next one dropped it leaves gateway 2 bare,
-- and is lost 1 there
abbrev pub done_in_a_dropped_tunnel : Listing
done_in_a_dropped_tunnel =
    take 43 through_gateway ++ "(drop 1 2)" ⇒ "(closed)" ∷ "(step 1 38)" ⇒ "(made 39)" ∷ "(step 1 39)" ⇒ "(made 40)" ∷ "(step 1 40)" ⇒ "(lost 4)" ∷ []

abbrev pub done_at_a_gateway : Listing
done_at_a_gateway =
    take 43 through_gateway ++ "(drop 1 1)" ⇒ "(closed)" ∷ "(step 1 38)" ⇒ "(made 39)" ∷ "(step 1 39)" ⇒ "(made 40)" ∷ "(step 1 40)" ⇒ "(made 41)"
    ∷ "(step 1 41)" ⇒ "(made 42)" ∷ "(step 1 42)" ⇒ "(lost 1)"
    ∷ []

-- on the circle the newest row at node 2 goes, and the older one matches
abbrev pub older_row_matches : Listing
older_row_matches =
    circle ++ "(open 1 1 4)" ⇒ "(made 1)" ∷ session 1 two_tunnels ++ session 1 third_tunnel
    ++ "(step 1 54)" ⇒ "(made 55)" ∷ "(send 1 0 77)" ⇒ "(made 56)" ∷ "(step 1 56)" ⇒ "(made 57)" ∷ "(step 1 57)" ⇒ "(made 58)"
    ∷ "(step 1 58)" ⇒ "(made 59)" ∷ "(drop 1 3)" ⇒ "(closed)" ∷ "(step 1 59)" ⇒ "(made 60)"
    ∷ []

-- item 65 is data on the wire from gateway 3 to gateway 2, in the tunnel of establishment 3. With 3 and 1 dropped, a row of establishment 2
-- at gateway 2 still has the peer 3, but none matches the data
abbrev pub admitted_and_not_matched : Listing
admitted_and_not_matched =
    take 70 round_in_tunnels ++ "(drop 1 3)" ⇒ "(closed)" ∷ "(drop 1 1)" ⇒ "(closed)" ∷ "(step 1 65)" ⇒ "(made 66)" ∷ "(step 1 66)" ⇒ "(made 67)"
    ∷ "(step 1 67)" ⇒ "(lost 5)"
    ∷ []

-- with drops a gateway on the circle can be without a row: item 188, with no hops left, is lost 2 at gateway 2 as well, and item 184, with
-- one left, leaves gateway 3 bare with none, and is lost 1
abbrev pub no_hops_and_no_row : Listing
no_hops_and_no_row = take 193 round_in_tunnels ++ "(drop 1 2)" ⇒ "(closed)" ∷ "(step 1 188)" ⇒ "(lost 2)" ∷ []

abbrev pub bare_with_no_hops : Listing
bare_with_no_hops = take 189 round_in_tunnels ++ "(drop 1 3)" ⇒ "(closed)" ∷ "(step 1 184)" ⇒ "(made 185)" ∷ "(step 1 185)" ⇒ "(lost 1)" ∷ []

abbrev pub drop_listings : List Listing
drop_listings =
    at_every_place ∷ half_a_tunnel ∷ busy_until_a_close ∷ one_of_two_sessions ∷ middle_of_three ∷ next_is_the_second ∷ done_in_a_dropped_tunnel ∷ done_at_a_gateway
    ∷ older_row_matches ∷ admitted_and_not_matched ∷ no_hops_and_no_row ∷ bare_with_no_hops ∷ []
