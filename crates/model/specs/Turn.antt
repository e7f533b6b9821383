-- What a line does, told by its session's part and by the tables that all sessions share: the code holds these apart. That this is
-- what `Calls` says of the whole state is proved (`turn_whole`). Cited by `turns`, `networks`, `tables` and `reports`, and the moves by
-- `sessions` and `effects`. Assumes nothing.
use Rattle.std.specs.Prelude.{ℕ, ◌+◌, ◌<◌, ◌≡◌, Bool, true, false, cond, ◌||◌, List, Option, Some, None, Result, Ok, Err, is_ok, length, get_or}
use Rattle.calculus.specs.declared.answer.Answer.{Answer}
use Rattle.calculus.specs.declared.answer.Answer.TheVariants.{Made, MadeByDefault, MadeTwo, Lost, Denied, Opened, Delivered, Closed}
use Rattle.calculus.specs.declared.answer.Refusal.{Refusal}
use Rattle.calculus.specs.declared.network.Network.{Network}
use Rattle.calculus.specs.declared.request.Report.{Report}
use Rattle.calculus.specs.declared.request.Report.TheVariants.{AllAssociations, WholeNetwork}
use Rattle.calculus.specs.declared.request.Request as request
use Rattle.calculus.specs.declared.request.Request.TheVariants.{Node, Route, Open, Step, Send, Close, Show, Net, Drop}
use Rattle.calculus.specs.declared.state.Part.{Part}
use Rattle.calculus.specs.declared.state.State.{State}
use Rattle.forms.specs.Request.{Asked}
use Rattle.model.specs.NetworkText.{network_lines}
use Rattle.model.specs.Row.{stands, raised, lowered}
use Rattle.model.specs.State.{load, store}
use Rattle.model.specs.Requests.{Move, checked, node_checks, route_checks, with_node, with_route, open_move, step_move, send_move, close_move, drop_move, shown_lines}
use Rattle.model.specs.Calls.{Lines, answer, report}

-- ---- a move

-- what it answers
abbrev pub answer_in : Move → Result Answer Refusal
answer_in (Ok m) = Ok m.answer
answer_in (Err r) = Err r

-- what it leaves of the part t: t where it is refused
abbrev pub part_after : Part → Move → Part
part_after t (Ok m) = m.part
part_after t (Err r) = t

-- what it leaves of the users
abbrev pub users_after : List ℕ → Move → List ℕ
users_after users (Ok m) = raised (lowered users m.change.went) m.change.came
users_after users (Err r) = users

-- whether an open was accepted, now or before
abbrev pub opened_after : Bool → Move → Bool
opened_after opened (Ok m) = m.change.opens || opened
opened_after opened (Err r) = opened

-- ---- a line that was read

-- the session whose part a request is about; any session's serves where it names none
abbrev pub session_in : request.Request → ℕ
session_in (Node a k has needs) = 1
session_in (Route a b n) = 1
session_in (Open u c d) = u.0
session_in (Step u k) = u.0
session_in (Send u w tag) = u.0
session_in (Close u) = u.0
session_in Show = 1
session_in Net = 1
session_in (Drop u e) = u.0

abbrev pub session_of : Asked → ℕ
session_of (Ok q) = session_in q
session_of (Err r) = 1

-- what a request answers, of the part t; (ok) stands for a report, which is accepted
unfoldable pub requested_of : Bool → Network → List ℕ → Part → request.Request → Result Answer Refusal
requested_of opened n users t (Node a k has needs) = checked (node_checks opened n a) Answer.Ok
requested_of opened n users t (Route a b next) = checked (route_checks opened n a b next) Answer.Ok
requested_of opened n users t (Open u c d) = answer_in (open_move n c d t)
requested_of opened n users t (Step u k) = answer_in (step_move n (stands users false) k.0 t)
requested_of opened n users t (Send u w tag) = answer_in (send_move w tag t)
requested_of opened n users t (Close u) = answer_in (close_move t)
requested_of opened n users t Show = Ok Answer.Ok
requested_of opened n users t Net = Ok Answer.Ok
requested_of opened n users t (Drop u e) = answer_in (drop_move e t)

abbrev pub turn_of : Bool → Network → List ℕ → Part → Asked → Result Answer Refusal
turn_of opened n users t (Ok q) = requested_of opened n users t q
turn_of opened n users t (Err r) = Err r

-- the part that it leaves
unfoldable pub part_with : Network → List ℕ → Part → request.Request → Part
part_with n users t (Node a k has needs) = t
part_with n users t (Route a b next) = t
part_with n users t (Open u c d) = part_after t (open_move n c d t)
part_with n users t (Step u k) = part_after t (step_move n (stands users false) k.0 t)
part_with n users t (Send u w tag) = part_after t (send_move w tag t)
part_with n users t (Close u) = part_after t (close_move t)
part_with n users t Show = t
part_with n users t Net = t
part_with n users t (Drop u e) = part_after t (drop_move e t)

abbrev pub part_of : Network → List ℕ → Part → Asked → Part
part_of n users t (Ok q) = part_with n users t q
part_of n users t (Err r) = t

-- whether an open was accepted, now or before: only an open is one
unfoldable pub opened_with : Bool → Network → Part → request.Request → Bool
opened_with opened n t (Node a k has needs) = opened
opened_with opened n t (Route a b next) = opened
opened_with opened n t (Open u c d) = is_ok (open_move n c d t) || opened
opened_with opened n t (Step u k) = opened
opened_with opened n t (Send u w tag) = opened
opened_with opened n t (Close u) = opened
opened_with opened n t Show = opened
opened_with opened n t Net = opened
opened_with opened n t (Drop u e) = opened

abbrev pub opened_of : Bool → Network → Part → Asked → Bool
opened_of opened n t (Ok q) = opened_with opened n t q
opened_of opened n t (Err r) = opened

-- the users that it leaves: only a step, a close and a drop move them
unfoldable pub users_with : Network → List ℕ → Part → request.Request → List ℕ
users_with n users t (Node a k has needs) = users
users_with n users t (Route a b next) = users
users_with n users t (Open u c d) = users
users_with n users t (Step u k) = users_after users (step_move n (stands users false) k.0 t)
users_with n users t (Send u w tag) = users
users_with n users t (Close u) = users_after users (close_move t)
users_with n users t Show = users
users_with n users t Net = users
users_with n users t (Drop u e) = users_after users (drop_move e t)

abbrev pub users_of : Network → List ℕ → Part → Asked → List ℕ
users_of n users t (Ok q) = users_with n users t q
users_of n users t (Err r) = users

-- where a call is answered (ok), the network may change
abbrev pub answers_ok : Result Answer Refusal → Bool
answers_ok (Ok Answer.Ok) = true
answers_ok (Ok (Made n)) = false
answers_ok (Ok (MadeByDefault n)) = false
answers_ok (Ok (MadeTwo n m)) = false
answers_ok (Ok (Lost l)) = false
answers_ok (Ok Denied) = false
answers_ok (Ok Opened) = false
answers_ok (Ok (Delivered tag)) = false
answers_ok (Ok Closed) = false
answers_ok (Err r) = false

-- the network once an accepted node or route call has given its part
abbrev pub network_with : Network → request.Request → Network
network_with n (Node a k has needs) = with_node n a k has needs
network_with n (Route a b next) = with_route n a b next
network_with n (Open u c d) = n
network_with n (Step u k) = n
network_with n (Send u w tag) = n
network_with n (Close u) = n
network_with n Show = n
network_with n Net = n
network_with n (Drop u e) = n

abbrev pub network_of : Network → Asked → Network
network_of n (Ok q) = network_with n q
network_of n (Err r) = n

-- the report that a request asks for, if it asks for one
abbrev pub report_in : request.Request → Option Report
report_in (Node a k has needs) = None
report_in (Route a b n) = None
report_in (Open u c d) = None
report_in (Step u k) = None
report_in (Send u w tag) = None
report_in (Close u) = None
report_in Show = Some AllAssociations
report_in Net = Some WholeNetwork
report_in (Drop u e) = None

-- the report that a line asks for
abbrev pub report_of : Asked → Option Report
report_of (Ok q) = report_in q
report_of (Err r) = None

-- the lines of a report; where there is none, that of the answer a
abbrev pub lines_as : Network → List ℕ → Result Answer Refusal → Option Report → Lines
lines_as n users a None = answer a
lines_as n users a (Some AllAssociations) = report (shown_lines users)
lines_as n users a (Some WholeNetwork) = report (network_lines n)

-- ---- the whole state

-- what a line answers, and what it leaves of the shared tables and of its session's part
pub record Turned : Type 0 where
  pub answer : Result Answer Refusal
  pub opened : Bool
  pub network : Network
  pub users : List ℕ
  pub part : Part

-- of the line r, whose session has the part t
abbrev pub turned : Bool → Network → List ℕ → Part → Asked → Turned
turned opened n users t r =
    let a = turn_of opened n users t r in
    record {
      answer = a;
      opened = opened_of opened n t r;
      network = cond (answers_ok a) (network_of n r) n;
      users = users_of n users t r;
      part = part_of n users t r;
    }

-- s with the shared tables that x leaves; the sessions' tables stay
abbrev pub shared_with : State → Turned → State
shared_with s x =
    record { opened = x.opened; network = x.network; sessions = s.sessions; items = s.items; rows = s.rows; users = x.users }

-- s with session u's part too
abbrev pub state_with : State → ℕ → Turned → State
state_with s u x = shared_with (store s u x.part) x

-- ---- the state as the code holds it

-- the parts of the eight sessions
pub record Parts (s : State) (parts : List Part) : Type 0 where
  pub many : length parts ≡ 8
  pub each : (u : ℕ) → u < 8 → (t : Part) → get_or parts u t ≡ load s (u + 1)

-- s, in pieces
pub record Held (s : State) (opened : Bool) (n : Network) (parts : List Part) (users : List ℕ) : Type 0 where
  pub opens : s.opened ≡ opened
  pub network : s.network ≡ n
  pub own : Parts s parts
  pub shared : s.users ≡ users
