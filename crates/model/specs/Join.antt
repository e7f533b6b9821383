-- Two networks made one: what a join of two files writes (document 02, #106). `joins::join` cites it; its promises are in Union. Assumes nothing.
use Rattle.std.specs.Prelude.{ℕ, ◌+◌, Bool, true, false, cond, not, ◌&&◌, ◌||◌, List, [], ◌∷◌, ◌++◌, map, ltb, eqb, length, Err}
use Rattle.std.specs.Prelude as std
use Rattle.std.proofs.Math.Option.{Option, none, some}
use Rattle.calculus.specs.declared.answer.Refusal.{Refusal}
use Rattle.calculus.specs.declared.answer.Refusal.TheVariants.{Short, Clash, Unsorted}
use Rattle.calculus.specs.declared.network.Network.{Network}
use Rattle.forms.specs.Bytes.{joined}
use Rattle.forms.specs.Text.{Form, form_line}
use Rattle.forms.specs.Answer.{answer_text}
use Rattle.forms.specs.Line.{lines}
use Rattle.model.specs.NetworkText.{node_form, route_form, network_text}
use Rattle.model.specs.State.{fresh}
use Rattle.model.specs.Texts.{after_lines}

-- ---- a file

-- its bytes, or none where it "can't be read"
abbrev pub File : Type 0
File = Option (List ℕ)

-- the texts are the same bytes
unfoldable pub same_text : List ℕ → List ℕ → Bool
same_text [] [] = true
same_text [] (c ∷ m) = false
same_text (b ∷ l) [] = false
same_text (b ∷ l) (c ∷ m) = eqb b c && same_text l m

-- the network that the lines of a text give, each a call, from a fresh state on
unfoldable pub network_in : List ℕ → Network
network_in t = (after_lines fresh (lines t)).network

-- "as #101 writes it": it is the text of the network that it gives; each of its lines is then answered (ok), by GivenBack's `accepts`
unfoldable pub is_network_text : List ℕ → Bool
is_network_text t = same_text t (network_text (network_in t))

-- the file is as #101 writes it; one that can't be read is not
abbrev pub is_sorted : File → Bool
is_sorted none = false
is_sorted (some t) = is_network_text t

-- its network; of one that can't be read the empty one, which no join looks at
abbrev pub file_network : File → Network
file_network none = fresh.network
file_network (some t) = network_in t

-- ---- the two networks, place by place

-- f of the two elements at each place
unfoldable pub together : {A : Type 0} → (A → A → A) → List A → List A → List A
together f [] m = []
together f (x ∷ l) [] = []
together f (x ∷ l) (y ∷ m) = f x y ∷ together f l m

-- f holds of the two at some place
unfoldable pub somewhere : {A : Type 0} → (A → A → Bool) → List A → List A → Bool
somewhere f [] m = false
somewhere f (x ∷ l) [] = false
somewhere f (x ∷ l) (y ∷ m) = f x y || somewhere f l m

-- the line of each entry of a table, the first being number k; the empty text where it has none
unfoldable pub lines_from : {A : Type 0} → (ℕ → A → List Form) → ℕ → List A → List (List ℕ)
lines_from f k [] = []
lines_from f k (x ∷ l) = joined (map form_line (f k x)) ∷ lines_from f (k + 1) l

-- the lines of a network's text, each at its place: of 32 nodes, then of 1,056 routes
abbrev pub place_lines : Network → List (List ℕ)
place_lines n = lines_from node_form 1 n.nodes ++ lines_from route_form 0 n.routes

-- there is a line: the text is not empty
abbrev pub is_there : List ℕ → Bool
is_there l = ltb 0 (length l)

-- both networks have a line at a place, and not the same one. A node's line has all that the node is, a route's its next hop
abbrev pub differ : List ℕ → List ℕ → Bool
differ x y = (is_there x && is_there y) && not (same_text x y)

-- "a shared node differs or a shared at and destination has two next hops"
abbrev pub clash : Network → Network → Bool
clash n m = somewhere differ (place_lines n) (place_lines m)

-- an entry of the first network, that is a node or the next node of a route, else of the second
abbrev pub either_entry : {A : Type 0} → std.Option A → std.Option A → std.Option A
either_entry x y = cond (std.is_some x) x y

-- "every node and route of either"
abbrev pub union : Network → Network → Network
union n m = record { nodes = together either_entry n.nodes m.nodes; routes = together either_entry n.routes m.routes }

-- ---- the join

-- what a join writes; `refusal` is what it returns, if refused
pub record JoinReply : Type 0 where
  pub text : List ℕ
  pub refusal : Option Refusal

-- "A refused join writes only (no 14) or (no 15)"
abbrev pub refused_join : Refusal → JoinReply
refused_join r = record { text = answer_text (Err r); refusal = some r }

-- refusal 0: "nothing written"
abbrev pub short_join : JoinReply
short_join = record { text = []; refusal = some Short }

-- a network's text
abbrev pub network_reply : Network → JoinReply
network_reply n = record { text = network_text n; refusal = none }

-- "shared ones written once, in #101's order"
abbrev pub join_networks : Network → Network → JoinReply
join_networks n m = cond (clash n m) (refused_join Clash) (network_reply (union n m))

-- the two files, with a lent output of `size` bytes: 0 first, then 15, then 14
unfoldable pub join : File → File → ℕ → JoinReply
join f g size =
    cond (ltb size 65536) short_join
    (cond (is_sorted f && is_sorted g) (join_networks (file_network f) (file_network g))
    (refused_join Unsorted))
