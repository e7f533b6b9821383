-- One call, and a list of calls. `simulator::call::call` cites `answered`. Assumes nothing.
use Rattle.std.specs.Prelude.{ℕ, Bool, true, false, cond, List, [], ◌∷◌, ◌++◌, Result, Ok, Err, ltb, eqb, length, drop}
use Rattle.std.proofs.Math.Option.{Option, none, some}
use Rattle.calculus.specs.declared.answer.Answer.{Answer}
use Rattle.calculus.specs.declared.answer.Refusal.{Refusal}
use Rattle.calculus.specs.declared.answer.Refusal.TheVariants.{Short}
use Rattle.calculus.specs.declared.request.Request as request
use Rattle.calculus.specs.declared.request.Request.TheVariants.{Node, Route, Open, Step, Send, Close, Show, Net, Drop}
use Rattle.calculus.specs.declared.state.State.{State}
use Rattle.calculus.specs.declared.state.Turn.{Turn}
use Rattle.forms.specs.Bytes.{joined}
use Rattle.forms.specs.Text.{Form, node, route, «open», step, send, close, show, net, take_down}
use Rattle.forms.specs.Read.{read}
use Rattle.forms.specs.Request.{Asked, asked}
use Rattle.forms.specs.Answer.{answer_text}
use Rattle.model.specs.Lists.{those}
use Rattle.model.specs.NetworkText.{network_lines}
use Rattle.model.specs.Row.{stands}
use Rattle.model.specs.Requests.{refused, node_turn, route_turn, in_session, open_move, step_move, send_move, close_move, drop_move, shown_lines}

-- ---- one call

-- what a call writes: the line of its answer, or the lines of a report, each with its newline
pub data Lines : Type 0 where
  answer : Result Answer Refusal → Lines
  report : List (List ℕ) → Lines

-- nothing is written
abbrev pub no_lines : Lines
no_lines = report []

-- what a call writes and leaves; `refusal` is what it returns, if refused
pub record Reply : Type 0 where
  pub state : State
  pub lines : Lines
  pub refusal : Option Refusal

abbrev pub refusal_in : Result Answer Refusal → Option Refusal
refusal_in (Ok a) = none
refusal_in (Err r) = some r

-- one answer
abbrev pub one_answer : Turn → Reply
one_answer t = record { state = t.state; lines = answer t.answer; refusal = refusal_in t.answer }

-- a report changes nothing
abbrev pub reported : State → List (List ℕ) → Reply
reported s ls = record { state = s; lines = report ls; refusal = none }

-- refusal 0: "nothing written"
abbrev pub short : State → Reply
short s = record { state = s; lines = no_lines; refusal = some Short }

-- a request
unfoldable pub requested : State → request.Request → Reply
requested s (Node a k has needs) = one_answer (node_turn s a k has needs)
requested s (Route a b n) = one_answer (route_turn s a b n)
requested s (Open u c d) = one_answer (in_session s u.0 (open_move s.network c d))
requested s (Step u k) = one_answer (in_session s u.0 (step_move s.network (stands s.users false) k.0))
requested s (Send u w tag) = one_answer (in_session s u.0 (send_move w tag))
requested s (Close u) = one_answer (in_session s u.0 close_move)
requested s Show = reported s (shown_lines s.users)
requested s Net = reported s (network_lines s.network)
requested s (Drop u e) = one_answer (in_session s u.0 (drop_move e))

-- "every call 0, 1, 2": 1 and 2 are the reading's
abbrev pub replied_to : State → Asked → Reply
replied_to s (Ok q) = requested s q
replied_to s (Err r) = one_answer (refused s r)

-- a call with this line and a lent output of `size` bytes
unfoldable pub answered : State → List ℕ → ℕ → Reply
answered s line size = cond (ltb size 65536) (short s) (replied_to s (asked (read line)))

-- the bytes of the lines
abbrev pub lines_text : Lines → List ℕ
lines_text (answer a) = answer_text a
lines_text (report ls) = joined ls

-- the lines that are written
abbrev pub lines_of : Reply → List ℕ
lines_of r = lines_text r.lines

-- the lent output after the call: the lines, and "output bytes past them stay"
abbrev pub output_after : List ℕ → Reply → List ℕ
output_after out r = lines_of r ++ drop (length (lines_of r)) out

-- ---- a list of calls

-- a call: its line, and the length of its lent output
pub record Call : Type 0 where
  pub line : List ℕ
  pub size : ℕ

-- a call with this line, and with room for any call's lines
abbrev pub roomy_call : List ℕ → Call
roomy_call line = record { line = line; size = 65536 }

abbrev pub call : State → Call → Reply
call s c = answered s c.line c.size

-- not refused
abbrev pub is_accepted : Option Refusal → Bool
is_accepted (some r) = false
is_accepted none = true

-- "Each call of the list gets the tables that the call before it left, refused or not"
unfoldable pub after : State → List Call → State
after s [] = s
after s (c ∷ cs) = after (call s c).state cs

unfoldable pub replies : State → List Call → List Reply
replies s [] = []
replies s (c ∷ cs) = let r = call s c in r ∷ replies r.state cs

-- the line is a node or route form
abbrev pub form_gives_network : Option Form → Bool
form_gives_network (some (node a k has needs)) = true
form_gives_network (some (route a b n)) = true
form_gives_network (some («open» u c d)) = false
form_gives_network (some (step u k)) = false
form_gives_network (some (send u w tag)) = false
form_gives_network (some (close u)) = false
form_gives_network (some show) = false
form_gives_network (some net) = false
form_gives_network (some (take_down u e)) = false
form_gives_network none = false

abbrev pub gives_network : Call → Bool
gives_network c = form_gives_network (read c.line)

-- the line names session u
abbrev pub form_names : ℕ → Option Form → Bool
form_names u (some (node a k has needs)) = false
form_names u (some (route a b n)) = false
form_names u (some («open» v c d)) = eqb v u
form_names u (some (step v k)) = eqb v u
form_names u (some (send v w tag)) = eqb v u
form_names u (some (close v)) = eqb v u
form_names u (some show) = false
form_names u (some net) = false
form_names u (some (take_down v e)) = eqb v u
form_names u none = false

-- "A call is a session's own if its line names that session"
abbrev pub is_own : ℕ → Call → Bool
is_own u c = form_names u (read c.line)

-- u's own calls
unfoldable pub own : ℕ → List Call → List Call
own u cs = those (is_own u) cs

-- the replies to u's own calls among all
unfoldable pub replies_to : ℕ → State → List Call → List Reply
replies_to u s [] = []
replies_to u s (c ∷ cs) =
    let r = call s c in
    let more = replies_to u r.state cs in
    cond (is_own u c) (r ∷ more) more
