-- Input that arrives in pieces, answered as it arrives. What `pieces::advance` cites rests on it. Proved in proofs/Stream: however the input
-- is cut, what is written are the answers to its lines. Assumes nothing.
use Rattle.std.specs.Prelude.{ℕ, ◌≤◌, ◌<◌, ◌≡◌, Bool, true, cond, List, [], ◌∷◌, ◌++◌, ltb, eqb, length, take, drop}
use Rattle.std.proofs.Math.Option.{none}
use Rattle.calculus.specs.declared.state.State.{State}
use Rattle.forms.specs.Line.{line_length, lines}
use Rattle.model.specs.Lists.{fold}
use Rattle.model.specs.Calls.{no_lines, Reply, answered, lines_of}
use Rattle.model.specs.Batch.{answered_text}
use Rattle.model.specs.Texts.{after_lines, answers_to, NoNewline}

-- how far a stream has come: the state; the bytes that came and are not read; what was written
pub record Stream : Type 0 where
  pub state : State
  pub unread : List ℕ
  pub written : List ℕ

-- a line of l ends in a newline
abbrev pub has_line : List ℕ → Bool
has_line l = ltb (line_length l) (length l)

-- so many bytes are too many for a form, whatever follows them in their line
abbrev pub too_long : ℕ
too_long = 401

-- what is kept of the unread bytes l: of a line whose newline has not come no more than shows that it is too long
abbrev pub kept : List ℕ → List ℕ
kept l = cond (has_line l) l (take too_long l)

-- a piece of the input arrives, or an output is lent and then written
pub data Event : Type 0 where
  arrives : List ℕ → Event
  lent : List ℕ → Event

-- the stream t after an event: a piece stands behind the unread bytes; into an output lines of them are answered, as far as it has room
abbrev pub after_event : Stream → Event → Stream
after_event t (arrives piece) = record { state = t.state; unread = t.unread ++ piece; written = t.written }
after_event t (lent out) =
    let b = answered_text t.state t.unread out in
    record { state = b.state; unread = kept (drop b.read t.unread); written = t.written ++ take b.written b.out }

-- the events es from the state s on
abbrev pub streamed : State → List Event → Stream
streamed s es = fold after_event (record { state = s; unread = []; written = [] }) es

-- the pieces of the input one after the other
abbrev pub input_of : List Event → List ℕ
input_of [] = []
input_of (arrives piece ∷ es) = piece ++ input_of es
input_of (lent out ∷ es) = input_of es

-- the reply at the end of the input: what is unread is a line, "an empty tail is no line"
abbrev pub finished : State → List ℕ → ℕ → Reply
finished s tail size = cond (eqb (length tail) 0) (record { state = s; lines = no_lines; refusal = none }) (answered s tail size)

pub record Streams : Type 0 where
  -- whatever the pieces and the outputs, and whatever is to come: what is written are the first answers to the lines of the input,
  -- and the stream has what it needs for the others
  pub written : (s : State) (es : List Event) (more : List ℕ)
      → let t = streamed s es in
      answers_to s (lines (input_of es ++ more)) ≡ t.written ++ answers_to t.state (lines (t.unread ++ more))
  pub state : (s : State) (es : List Event) (more : List ℕ)
      → let t = streamed s es in
      after_lines s (lines (input_of es ++ more)) ≡ after_lines t.state (lines (t.unread ++ more))
  -- at the end of the input all its lines are answered, the tail at its end included
  pub ended : (s : State) (es : List Event) (size : ℕ)
      → let t = streamed s es in
      let r = finished t.state t.unread size in
      NoNewline t.unread → 65536 ≤ size
      → (t.written ++ lines_of r ≡ answers_to s (lines (input_of es))) × (r.state ≡ after_lines s (lines (input_of es)))
  -- an output with room for a call has the next line answered, and of an unfinished one at most `too_long` bytes are kept
  pub shorter : (t : Stream) (out : List ℕ) → has_line t.unread ≡ true → 65536 ≤ length out
      → length (after_event t (lent out)).unread < length t.unread
  pub bounded : (l : List ℕ) → NoNewline l → length (kept l) ≤ too_long
