-- The state: fresh, a session's part taken out and put back, and an effect applied to a part. Assumes nothing.
use Rattle.std.specs.Prelude.{ℕ, ◌+◌, ◌*◌, ◌-◌, Bool, true, false, List, [], ◌∷◌, eqb, length, get_or, set, take, drop, replicate, Option, Some, None, is_none, option_map, option_and_then, position, not, ◌&&◌}
use Rattle.std.proofs.lemmas.List.Edits.{sets}
use Rattle.std.proofs.Math.Seq.{paste}
use Rattle.calculus.specs.declared.answer.Answer as answer
use Rattle.calculus.specs.declared.answer.Answer.TheVariants as answers
use Rattle.calculus.specs.declared.effect.Outcome.{Outcome}
use Rattle.calculus.specs.declared.effect.Outcome.TheVariants.{Wrote, WroteByDefault, WroteTwo, Lost, Denied, Opened, Delivered}
use Rattle.calculus.specs.declared.effect.Wait.{Wait}
use Rattle.calculus.specs.declared.effect.Effect.{Effect}
use Rattle.calculus.specs.declared.packet.Item.{Item}
use Rattle.calculus.specs.declared.packet.Slot.{Slot}
use Rattle.calculus.specs.declared.session.Row.{Row}
use Rattle.calculus.specs.declared.session.Session.{Session}
use Rattle.calculus.specs.declared.session.Stage.{Stage}
use Rattle.calculus.specs.declared.state.Part.{Part}
use Rattle.calculus.specs.declared.state.State.{State}
use Rattle.model.specs.Item.{is_that_wait, of_item, slot_at}

-- ---- fresh

abbrev pub blank_row : Row
blank_row = record { node = 0; out = false; source = 0; destination = 0; peers = record { first = 0 }; establishment = 0 }

abbrev pub blank_session : Session
blank_session = record { stage = Stage.Unused; client = 0; server = 0; begun = 0; rows = 0; last = record { 0 = 0 } }

-- the part of a session that was never open
abbrev pub blank_part : Part
blank_part = record { session = blank_session; items = replicate 16 None; rows = replicate 32 blank_row }

-- "no node, no route and no users; every session is unused, with no items, no rows, none begun and last number 0"
abbrev pub fresh : State
fresh =
    record {
      opened = false;
      network = record { nodes = replicate 32 None; routes = replicate 1056 None };
      sessions = replicate 8 blank_session;
      items = replicate 128 None;
      rows = replicate 256 blank_row;
      users = replicate 2048 0;
    }

-- ---- a session's part

-- session u's 16 places for items, and its 32 for rows
unfoldable pub load : State → ℕ → Part
load s u =
    record {
      session = get_or s.sessions (u - 1) blank_session;
      items = take 16 (drop (16 * (u - 1)) s.items);
      rows = take 32 (drop (32 * (u - 1)) s.rows);
    }

unfoldable pub store : State → ℕ → Part → State
store s u t =
    record {
      opened = s.opened;
      network = s.network;
      sessions = set s.sessions (u - 1) t.session;
      items = paste s.items (16 * (u - 1)) t.items 16;
      rows = paste s.rows (32 * (u - 1)) t.rows 32;
      users = s.users;
    }

-- ---- items

-- an item is there, and its number is k
abbrev pub is_numbered : ℕ → Option Slot → Bool
is_numbered k None = false
is_numbered k (Some s) = eqb s.number.0 k

-- the pending item number k, with its place
unfoldable pub found_item : ℕ → List (Option Slot) → Option (ℕ × Slot)
found_item k l = option_and_then (λ at. option_map (λ s. (at, s)) (slot_at l at)) (position (is_numbered k) l)

-- x in the place that was found, if one was
abbrev pub set_found : {A : Type 0} → List A → Option ℕ → A → List A
set_found l None x = l
set_found l (Some at) x = set l at x

unfoldable pub use_up : List (Option Slot) → Option Wait → List (Option Slot)
use_up l None = l
use_up l (Some w) = set_found l (position (of_item (is_that_wait w)) l) None

-- item i, with the number n, goes to the first free place; with none free it finds none, and SetUp states that this never is
unfoldable pub put_item : List (Option Slot) → ℕ → Item → List (Option Slot)
put_item l n i = set_found l (position is_none l) (Some (record { number = record { 0 = n }; item = i }))

-- ---- an effect applied

-- n being the last number, "the first named has the lower number"
abbrev pub written : List (Option Slot) → ℕ → Outcome → List (Option Slot)
written l n (Wrote i) = put_item l (n + 1) i
written l n (WroteByDefault i) = put_item l (n + 1) i
written l n (WroteTwo i j) = put_item (put_item l (n + 1) i) (n + 2) j
written l n (Lost k) = l
written l n Denied = l
written l n Opened = l
written l n (Delivered tag) = l

-- how many items are written
abbrev pub written_count : Outcome → ℕ
written_count (Wrote i) = 1
written_count (WroteByDefault i) = 1
written_count (WroteTwo i j) = 2
written_count (Lost k) = 0
written_count Denied = 0
written_count Opened = 0
written_count (Delivered tag) = 0

-- "the numbers written", or why none is
abbrev pub answer_of : ℕ → Outcome → answer.Answer
answer_of n (Wrote i) = answers.Made (record { 0 = n + 1 })
answer_of n (WroteByDefault i) = answers.MadeByDefault (record { 0 = n + 1 })
answer_of n (WroteTwo i j) = answers.MadeTwo (record { 0 = n + 1 }) (record { 0 = n + 2 })
answer_of n (Lost k) = answers.Lost k
answer_of n Denied = answers.Denied
answer_of n Opened = answers.Opened
answer_of n (Delivered tag) = answers.Delivered tag

abbrev pub stage_after : Stage → Outcome → Stage
stage_after g (Wrote i) = g
stage_after g (WroteByDefault i) = g
stage_after g (WroteTwo i j) = g
stage_after g (Lost k) = g
stage_after g Denied = Stage.Denied
stage_after g Opened = Stage.Open
stage_after g (Delivered tag) = g

abbrev pub begun_after : ℕ → Option ℕ → ℕ
begun_after n None = n
begun_after n (Some e) = e

abbrev pub added_rows : Option (Row × Row) → List Row
added_rows None = []
added_rows (Some (r, q)) = r ∷ q ∷ []

-- the rows that find a place where n stand: with none free a row finds none, and SetUp states that this never is
abbrev pub placed : ℕ → Option (Row × Row) → List Row
placed n f = take (32 - n) (added_rows f)

-- "The stepped item is used up", and the wait; then come the items written
unfoldable pub items_after : List (Option Slot) → ℕ → ℕ → Effect → List (Option Slot)
items_after l n at f = written (use_up (set l at None) f.wait) n f.outcome

unfoldable pub session_after : Session → Effect → Session
session_after s f =
    record {
      stage = stage_after s.stage f.outcome;
      client = s.client;
      server = s.server;
      begun = begun_after s.begun f.begins;
      rows = s.rows + length (placed s.rows f.added);
      last = record { 0 = s.last.0 + written_count f.outcome };
    }

-- the effect f of the item at place `at`
unfoldable pub applied : Part → ℕ → Effect → Part
applied t at f =
    record {
      session = session_after t.session f;
      items = items_after t.items t.session.last.0 at f;
      rows = sets t.rows t.session.rows (placed t.session.rows f.added);
    }
