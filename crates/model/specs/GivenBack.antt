-- The network's text gives that network again, and no other (document 02, #101). Proved in proofs/GivenBack. Assumes nothing.
use Rattle.std.specs.Prelude.{ℕ, ◌≤◌, ◌≡◌, true, false, cond, List, [], ◌∷◌, map, Option, Some, None, ◌↔◌, ltb, length, Ok}
use Rattle.calculus.specs.Number.{is_node, is_destination}
use Rattle.calculus.specs.declared.answer.Answer.{Answer}
use Rattle.calculus.specs.declared.network.Network.{Network}
use Rattle.calculus.specs.declared.network.Node.{Node}
use Rattle.calculus.specs.declared.state.State.{State}
use Rattle.forms.specs.Text.{Form, node, route, «open», step, send, close, show, net, take_down, text}
use Rattle.forms.specs.Line.{lines}
use Rattle.model.specs.Lists.{All, Rising}
use Rattle.model.specs.Network.{route_to}
use Rattle.model.specs.NetworkText.{network_forms, network_lines, network_text}
use Rattle.model.specs.State.{fresh}
use Rattle.model.specs.Requests.{accepted, nodes_given, leads_back}
use Rattle.model.specs.Calls.{answer, Reply, reported, short, answered, Call, after, replies, roomy_call}
use Rattle.model.specs.Texts.{after_lines}

-- ---- the networks that calls leave

-- a node: both its sets have 64 places
pub record IsNode (x : Node) : Type 0 where
  pub has : length x.has ≡ 64
  pub needs : length x.needs ≡ 64

-- a place of the nodes' table: a node, where one was given
abbrev pub IsPlace : Option Node → Type 0
IsPlace None = Unit
IsPlace (Some x) = IsNode x

-- refusals 4 and 8 let the route from a for b to next pass
abbrev pub Passes : Network → ℕ → ℕ → ℕ → Type 0
Passes n a b next = (nodes_given n a b next ≡ true) × (leads_back a b next ≡ false)

-- the tables have their sizes, each place is one, and each route is one that refusals 4 and 8 let pass
pub record Consistent (n : Network) : Type 0 where
  pub nodes : length n.nodes ≡ 32
  pub routes : length n.routes ≡ 1056
  pub places : All IsPlace n.nodes
  pub routed : (a b next : ℕ) → is_node a ≡ true → is_destination b ≡ true → route_to n a b ≡ Some next → Passes n a b next

-- ---- the text's order

-- nodes come first, by number; then routes, by at, then by destination. The text has no other form
abbrev pub form_key : Form → List ℕ
form_key (node a k has needs) = 0 ∷ a ∷ []
form_key (route a b next) = 1 ∷ a ∷ b ∷ []
form_key («open» u c d) = []
form_key (step u k) = []
form_key (send u w tag) = []
form_key (close u) = []
form_key show = []
form_key net = []
form_key (take_down u e) = []

-- ---- the text, read

-- the fresh state, but for its network
abbrev pub fresh_with : Network → State
fresh_with n = (accepted fresh n).state

-- the reply is `(ok)`
abbrev pub AnsweredOk : Reply → Type 0
AnsweredOk r = r.lines ≡ answer (Ok Answer.Ok)

pub record GivenBack : Type 0 where
  -- "(net) writes it", at any time, and changes nothing; of a line that is `(net)` refusal 0 is the only one
  pub written : (s : State) (size : ℕ)
      → answered s (text net) size ≡ cond (ltb size 65536) (short s) (reported s (network_lines s.network))
  -- "nodes rising, then routes by at, then by destination"
  pub ordered : (n : Network) → Rising form_key (network_forms n)
  -- whatever is called of a fresh state, the network is consistent
  pub consistent : (cs : List Call) → Consistent (after fresh cs).network
  -- "Read on a fresh desk, the output gives that network again", and changes nothing else; each line is accepted
  pub again : (n : Network) → Consistent n → after_lines fresh (lines (network_text n)) ≡ fresh_with n
  pub accepts : (n : Network) → Consistent n → All AnsweredOk (replies fresh (map roomy_call (lines (network_text n))))
  -- "Two networks are equal exactly when their texts are the same bytes"
  pub equal : (n m : Network) → Consistent n → Consistent m → (n ≡ m) ↔ (network_text n ≡ network_text m)
  -- it has at most 29,376 bytes, so it fits into the lent output of 65,536
  pub fits : (n : Network) → Consistent n → length (network_text n) ≤ 29376
