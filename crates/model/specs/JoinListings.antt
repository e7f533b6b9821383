-- #106: joins of small files, worked out by hand. Proved in proofs/Listings, under the theorem of listings. Assumes nothing.
use Rattle.std.specs.Prelude.{ℕ, ◌≡◌, List, [], ◌∷◌, ◌++◌, map, replicate}
use Prim.Native.String.{String}
use Rattle.std.proofs.Math.Option.{none, some}
use Rattle.calculus.specs.declared.answer.Refusal.{Refusal}
use Rattle.calculus.specs.declared.answer.Refusal.TheVariants.{Short, Clash, Unsorted}
use Rattle.forms.specs.Bytes.{bytes}
use Rattle.model.specs.Join.{JoinReply, join}

-- two files' bytes
pub record Pair : Type 0 where
  pub first : List ℕ
  pub second : List ℕ

infix 70 ◌with◌
abbrev pub ◌with◌ : List ℕ → List ℕ → Pair
a with b = record { first = a; second = b }

-- their join, with room for any
abbrev pub join_of : Pair → JoinReply
join_of p = join (some p.first) (some p.second) 65536

-- a join that writes this text, and one that is refused so
abbrev pub joined_to : List ℕ → JoinReply
joined_to t = record { text = t; refusal = none }

abbrev pub refused_by : String → Refusal → JoinReply
refused_by line r = record { text = bytes line; refusal = some r }

-- ---- joined

-- the tour office's file and the house's, which share their gateways
abbrev pub office : List ℕ
office =
    bytes "(node 1 host (has 7) (needs 9))\n(node 10 gate (has 7 9) (needs 7))\n(node 20 gate (has 7 9 12) (needs 7))\n"
    ++ bytes "(route 1 0 10)\n(route 10 0 20)\n(route 10 1 1)\n"

abbrev pub house : List ℕ
house =
    bytes "(node 10 gate (has 7 9) (needs 7))\n(node 20 gate (has 7 9 12) (needs 7))\n(node 21 host (has 7) (needs 9))\n"
    ++ bytes "(route 20 0 10)\n(route 20 21 21)\n(route 21 0 20)\n"

abbrev pub office_and_house : List ℕ
office_and_house =
    bytes "(node 1 host (has 7) (needs 9))\n(node 10 gate (has 7 9) (needs 7))\n(node 20 gate (has 7 9 12) (needs 7))\n"
    ++ bytes "(node 21 host (has 7) (needs 9))\n"
    ++ bytes "(route 1 0 10)\n(route 10 0 20)\n(route 10 1 1)\n(route 20 0 10)\n(route 20 21 21)\n(route 21 0 20)\n"

-- three hosts with these routes
abbrev pub three_hosts : String → List ℕ
three_hosts routes = bytes "(node 1 host (has) (needs))\n(node 2 host (has) (needs))\n(node 3 host (has) (needs))\n" ++ bytes routes

-- either way round; the join with one of its files; a file with itself; with the empty one; two empty ones; a default beside a route of the
-- same node
abbrev pub joinable : List Pair
joinable =
    office with house ∷ house with office ∷ office_and_house with house ∷ house with house ∷ house with [] ∷ [] with []
    ∷ three_hosts "(route 1 3 2)\n" with three_hosts "(route 1 0 2)\n"
    ∷ []

abbrev pub joins_of_them : List (List ℕ)
joins_of_them =
    office_and_house ∷ office_and_house ∷ office_and_house ∷ house ∷ house ∷ [] ∷ three_hosts "(route 1 0 2)\n(route 1 3 2)\n" ∷ []

-- ---- refused

-- two that clash: a kind; what a node has; what it needs; a next hop; that of a default
abbrev pub clashing : List Pair
clashing =
    bytes "(node 1 host (has) (needs))\n" with bytes "(node 1 gate (has) (needs))\n"
    ∷ bytes "(node 1 host (has 7) (needs))\n" with bytes "(node 1 host (has 7 8) (needs))\n"
    ∷ bytes "(node 1 host (has) (needs 7))\n" with bytes "(node 1 host (has) (needs 8))\n"
    ∷ three_hosts "(route 1 3 2)\n" with three_hosts "(route 1 3 3)\n"
    ∷ three_hosts "(route 1 0 2)\n" with three_hosts "(route 1 0 3)\n"
    ∷ []

-- not as #101 writes it: nodes not rising; a route before a node; a line twice; a blank one; no newline at the end; a carriage return;
-- a route for a node that only the other file has; a call that gives no network. The first two and the fourth would clash, too
abbrev pub unsorted_files : List (List ℕ)
unsorted_files =
    bytes "(node 10 host (has) (needs))\n(node 1 host (has) (needs))\n"
    ∷ bytes "(node 10 host (has) (needs))\n(route 10 0 11)\n(node 11 host (has) (needs))\n"
    ∷ bytes "(node 1 host (has) (needs))\n(node 1 host (has) (needs))\n"
    ∷ bytes "(node 10 host (has) (needs))\n\n"
    ∷ bytes "(node 1 host (has) (needs))"
    ∷ bytes "(node 1 host (has) (needs))\r\n"
    ∷ bytes "(node 1 host (has) (needs))\n(route 1 0 10)\n"
    ∷ bytes "(show)\n"
    ∷ []

pub record JoinListings : Type 0 where
  pub joined : map join_of joinable ≡ map joined_to joins_of_them
  pub clash : map join_of clashing ≡ replicate 5 (refused_by "(no 14)\n" Clash)
  -- with the house's file
  pub unsorted : map (λ t. join_of (t with house)) unsorted_files ≡ replicate 8 (refused_by "(no 15)\n" Unsorted)
  pub unread : join none (some house) 65536 ≡ refused_by "(no 15)\n" Unsorted
  -- 0 comes first, and nothing is written
  pub short : join none (some house) 65535 ≡ record { text = []; refusal = some Short }
