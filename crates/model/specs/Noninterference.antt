-- Demand 3: no session can tell whether the others are there. Proved in proofs/Noninterference. Assumes nothing.
use Rattle.std.specs.Prelude.{ℕ, ◌+◌, ◌≡◌, Bool, true, false, cond, List, [], ◌∷◌, ◌++◌, map, not, Result, Ok, Err, Some, None}
use Rattle.std.proofs.Math.Option.{Option, none, some}
use Rattle.std.specs.Prelude as std
use Rattle.calculus.specs.Answer.{refusal_number}
use Rattle.calculus.specs.Number.{is_node, is_session}
use Rattle.calculus.specs.declared.answer.Answer.{Answer}
use Rattle.calculus.specs.declared.answer.Answer.TheVariants.{Made, MadeByDefault, MadeTwo, Lost, Denied, Opened, Delivered, Closed}
use Rattle.calculus.specs.declared.answer.Refusal.{Refusal}
use Rattle.calculus.specs.declared.packet.Slot.{Slot}
use Rattle.calculus.specs.declared.session.Row.{Row}
use Rattle.calculus.specs.declared.session.Stage.{Stage}
use Rattle.calculus.specs.declared.state.Part.{Part}
use Rattle.calculus.specs.declared.state.State.{State}
use Rattle.model.specs.Lists.{All, up_from}
use Rattle.model.specs.Row.{held, how_many, users_of, row_stands}
use Rattle.model.specs.State.{fresh, load}
use Rattle.model.specs.Requests.{unused}
use Rattle.model.specs.Calls.{Call, Lines, answer, report, Reply, lines_of, after, replies, gives_network, own, replies_to}

-- ---- an answer

-- "An answer is the lines written and, if refused, the number returned."
pub record Observed : Type 0 where
  pub lines : List ℕ
  pub number : Option ℕ

abbrev pub number_of : Option Refusal → Option ℕ
number_of (some r) = some (refusal_number r)
number_of none = none

abbrev pub observed : Reply → Observed
observed r = record { lines = lines_of r; number = number_of r.refusal }

-- the numbers that an answer carries in `(made ..)`
abbrev pub numbers_in : Result Answer Refusal → List ℕ
numbers_in (Ok Answer.Ok) = []
numbers_in (Ok (Made n)) = n.0 ∷ []
numbers_in (Ok (MadeByDefault n)) = n.0 ∷ []
numbers_in (Ok (MadeTwo n m)) = n.0 ∷ m.0 ∷ []
numbers_in (Ok (Lost l)) = []
numbers_in (Ok Denied) = []
numbers_in (Ok Opened) = []
numbers_in (Ok (Delivered tag)) = []
numbers_in (Ok Closed) = []
numbers_in (Err r) = []

-- a report issues none
abbrev pub numbers_in_lines : Lines → List ℕ
numbers_in_lines (answer a) = numbers_in a
numbers_in_lines (report ls) = []

-- the numbers that these replies issue, in order
unfoldable pub issued : List Reply → List ℕ
issued [] = []
issued (r ∷ rs) = numbers_in_lines r.lines ++ issued rs

-- ---- what a session sees of itself

-- the pending items, in the order of their places
abbrev pub pending : List (std.Option Slot) → List Slot
pending [] = []
pending (None ∷ l) = pending l
pending (Some s ∷ l) = s ∷ pending l

-- "Ends are compared while the session is in use"
abbrev pub ends_of : Part → Option (ℕ × ℕ)
ends_of t = cond (unused t) none (some (t.session.client, t.session.server))

pub record View : Type 0 where
  pub stage : Stage
  pub ends : Option (ℕ × ℕ)
  -- "items with their numbers"
  pub items : List Slot
  -- "rows in their order of age"
  pub rows : List Row
  pub begun : ℕ
  pub last : ℕ

abbrev pub view_of : Part → View
view_of t =
    record {
      stage = t.session.stage;
      ends = ends_of t;
      items = pending t.items;
      rows = held t;
      begun = t.session.begun;
      last = t.session.last.0;
    }

abbrev pub view : State → ℕ → View
view s u = view_of (load s u)

-- ---- rows and users

-- how many rows of these sessions name the association
abbrev pub rows_naming : Bool → ℕ → ℕ → State → List ℕ → ℕ
rows_naming out a q s [] = 0
rows_naming out a q s (u ∷ us) = how_many out a q (held (load s u)) + rows_naming out a q s us

-- ---- the promise

-- for session u, where the list cs follows the network's calls, which left `start`
pub record Noninterferes (start : State) (cs : List Call) (u : ℕ) : Type 0 where
  -- u's answers in the whole list are those of its own calls alone
  pub answers : map observed (replies_to u start cs) ≡ map observed (replies start (own u cs))
  -- what u sees of itself after the whole list is what it sees after its own calls alone
  pub seen : view (after start cs) u ≡ view (after start (own u cs)) u
  -- the numbers issued to u are 1, 2, .. up to its last number
  pub numbers : issued (replies_to u start cs) ≡ up_from 0 (view (after start cs) u).last
  -- every association that a row of u names stands
  pub standing : All (λ r. row_stands (after start cs).users r ≡ true) (view (after start cs) u).rows
  -- an association's users are as many as the rows of all sessions that name it
  pub users : (out : Bool) (a q : ℕ) → is_node a ≡ true → is_node q ≡ true
      → users_of (after start cs).users out a q ≡ rows_naming out a q (after start cs) (up_from 0 8)

-- "Any list of node and route calls then gives the network"; then any list of other calls, refused or not
pub record Noninterference : Type 0 where
  pub holds : (network cs : List Call) → All (λ c. gives_network c ≡ true) network → All (λ c. gives_network c ≡ false) cs
      → (u : ℕ) → is_session u ≡ true → Noninterferes (after fresh network) cs u
