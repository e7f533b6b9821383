-- What a line asks: its form as a request in range, with refusals 1 and 2 told apart. `read` cites it. Assumes nothing.
use Rattle.std.specs.Prelude.{ℕ, ◌+◌, Bool, true, false, cond, ◌&&◌, List, [], ◌∷◌, Result, Ok, Err, set, replicate}
use Rattle.std.proofs.Math.Option.{Option, none, some}
use Rattle.calculus.specs.Number.{within, is_node, is_destination, is_session, is_item, is_establishment, is_tag, sender_of}
use Rattle.calculus.specs.Table.{entries_from, only_if}
use Rattle.calculus.specs.declared.answer.Refusal.{Refusal}
use Rattle.calculus.specs.declared.answer.Refusal.TheVariants.{Unreadable, Range}
use Rattle.calculus.specs.declared.network.Kind.{Kind}
use Rattle.calculus.specs.declared.request.Request as request
use Rattle.calculus.specs.declared.request.Request.TheVariants.{Node, Route, Open, Step, Send, Close, Show, Net, Drop}
use Rattle.forms.specs.Text.{Form, node, route, «open», step, send, close, show, net, take_down}

-- "credentials 0 to 63", strictly rising, the first at least `least`
abbrev pub rising : ℕ → List ℕ → Bool
rising least [] = true
rising least (n ∷ ns) = within least 63 n && rising (n + 1) ns

-- the set s with the credentials ns
abbrev pub holding : List Bool → List ℕ → List Bool
holding s [] = s
holding s (n ∷ ns) = holding (set s n true) ns

-- the credentials that a set holds, rising; s is the set from credential n on
abbrev pub credentials_from : ℕ → List Bool → List ℕ
credentials_from n s = entries_from (λ m held. only_if held m) n s

-- the form that gives node a, with these sets
abbrev pub node_of : ℕ → Kind → List Bool → List Bool → Form
node_of a k has needs = node a k (credentials_from 0 has) (credentials_from 0 needs)

-- the empty set
abbrev pub no_credentials : List Bool
no_credentials = replicate 64 false

-- what a line asks, or its refusal 1 or 2
abbrev pub Asked : Type 0
Asked = Result request.Request Refusal

-- the request q where its numbers are in range, else refusal 2
abbrev pub in_range : Bool → request.Request → Asked
in_range ok q = cond ok (Ok q) (Err Range)

-- what a form asks
abbrev pub reading : Form → Asked
reading (node a k has needs) =
    in_range (is_node a && (rising 0 has && rising 0 needs)) (Node a k (holding no_credentials has) (holding no_credentials needs))
reading (route a b n) = in_range (is_node a && (is_destination b && is_node n)) (Route a b n)
reading («open» u c d) = in_range (is_session u && (is_node c && is_node d)) (Open (record { 0 = u }) c d)
reading (step u k) = in_range (is_session u && is_item k) (Step (record { 0 = u }) (record { 0 = k }))
reading (send u w t) = in_range (is_session u && (within 0 1 w && is_tag t)) (Send (record { 0 = u }) (sender_of w) t)
reading (close u) = in_range (is_session u) (Close (record { 0 = u }))
reading show = Ok Show
reading net = Ok Net
reading (take_down u e) = in_range (is_session u && is_establishment e) (Drop (record { 0 = u }) e)

-- what a line asks: where it is no form, refusal 1
abbrev pub asked : Option Form → Asked
asked (some f) = reading f
asked none = Err Unreadable
