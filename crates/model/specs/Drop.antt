-- Request #109: a tunnel that is dropped leaves what stood before it. Proved in proofs/Drop. Assumes nothing.
use Rattle.std.specs.Prelude.{ℕ, ◌≡◌, true, cond, List, [], ◌∷◌, ◌++◌, Ok, Err}
use Rattle.std.specs.Prelude.{Option, None, Some}
use Rattle.std.proofs.Math.Option.{none, some}
use Rattle.calculus.specs.Number.{is_session}
use Rattle.calculus.specs.declared.packet.Item.{Item}
use Rattle.calculus.specs.declared.packet.Item.TheVariants.{Wire, Out, Up, Est, Auth, Grant, Ack, Dwait, Ewait}
use Rattle.calculus.specs.declared.packet.Slot.{Slot}
use Rattle.calculus.specs.declared.request.Request as request
use Rattle.calculus.specs.declared.request.Request.TheVariants.{Node, Route, Open, Step, Send, Close, Show, Net, Drop}
use Rattle.calculus.specs.declared.state.State.{State}
use Rattle.forms.specs.Text.{take_down}
use Rattle.forms.specs.Read.{read}
use Rattle.forms.specs.Request.{asked, Asked}
use Rattle.model.specs.Row.{held}
use Rattle.model.specs.State.{fresh, load, found_item}
use Rattle.model.specs.Calls.{Call, call, is_accepted, after}

-- ---- the calls that add rows or remove some

pub data Event : Type 0 where
  -- a grant of session u, of its establishment e
  granted : (u e : ℕ) → Event
  -- a drop or a close, of any session
  removed : Event

-- the events of an accepted step of session u on the item i
abbrev pub step_events : ℕ → Item → List Event
step_events u (Wire a p) = []
step_events u (Out a p) = []
step_events u (Up a p) = []
step_events u (Est a b e) = []
step_events u (Auth a q e side) = []
step_events u (Grant a q e side) = granted u e ∷ []
step_events u (Ack a e) = []
step_events u (Dwait a) = []
step_events u (Ewait a e) = []

-- the same, of the item that was found, if one was
abbrev pub found_events : ℕ → Option (ℕ × Slot) → List Event
found_events u None = []
found_events u (Some (at, s)) = step_events u s.item

-- the events of a request that is accepted on the state s
abbrev pub request_events : State → request.Request → List Event
request_events s (Node a k has needs) = []
request_events s (Route a b next) = []
request_events s (Open u c d) = []
request_events s (Step u k) = found_events u.0 (found_item k.0 (load s u.0).items)
request_events s (Send u w tag) = []
request_events s (Close u) = removed ∷ []
request_events s Show = []
request_events s Net = []
request_events s (Drop u e) = removed ∷ []

-- the same, of a line that was read
abbrev pub line_events : State → Asked → List Event
line_events s (Ok q) = request_events s q
line_events s (Err r) = []

-- the events of a call: none where it is refused
abbrev pub call_events : State → Call → List Event
call_events s c = cond (is_accepted (call s c).refusal) (line_events s (asked (read c.line))) []

-- the events of a list of calls, in its order
unfoldable pub events : State → List Call → List Event
events s [] = []
events s (c ∷ cs) = call_events s c ++ events (call s c).state cs

-- ---- the promise

-- in t every session has the rows that it has in s, in their order, and the users are those of s
pub record SameRows (s t : State) : Type 0 where
  pub rows : (v : ℕ) → is_session v ≡ true → held (load t v) ≡ held (load s v)
  pub users : t.users ≡ s.users

pub record Drops : Type 0 where
  -- "After both grants of an establishment, this drop, once accepted, leaves the rows and users that stood before the first of them, if no
  -- other grant, drop or close of any session came between": s stands before the first grant, and from there on the grants, drops and
  -- closes of all sessions are the two grants; then comes c, the drop
  pub leaves : (before cs : List Call) (c : Call) (u e : ℕ)
      → let s = after fresh before in
      let t = after s cs in
      events s cs ≡ granted u e ∷ granted u e ∷ [] → read c.line ≡ some (take_down u e) → (call t c).refusal ≡ none
      → SameRows s (call t c).state
