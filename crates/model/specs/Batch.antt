-- A text of several lines, answered one after the other. `simulator::calls::calls` cites `answered_text`. Assumes nothing.
use Rattle.std.specs.Prelude.{ℕ, zero, suc, ◌+◌, ◌-◌, Bool, true, cond, ◌||◌, List, ◌++◌, Option, Some, None, eqb, ltb, length, take, drop}
use Rattle.calculus.specs.declared.state.State.{State}
use Rattle.forms.specs.Line.{next_line}
use Rattle.forms.specs.declared.line.Line.{Line}
use Rattle.model.specs.Calls.{answered, lines_of, output_after}

-- how far a text's calls have come: the state; how many bytes of the text are read; the lent output, and how many of its
-- bytes are written
pub record Batch : Type 0 where
  pub state : State
  pub read : ℕ
  pub out : List ℕ
  pub written : ℕ

-- the line that is next starts where the text is read, and ends in a newline at `stop`; or none does
abbrev pub is_last : Option Line → Bool
is_last (Some x) = eqb x.stop x.next
is_last None = true

abbrev pub stop_of : Option Line → ℕ
stop_of (Some x) = x.stop
stop_of None = 0

abbrev pub behind : Option Line → ℕ
behind (Some x) = x.next
behind None = 0

-- the bytes of that line of `text`, where `from` bytes are read: those before its newline
abbrev pub line_of : List ℕ → ℕ → Option Line → List ℕ
line_of text from l = take (stop_of l - from) (drop from text)

-- that line is one more call, and the rest of the output is lent to it
unfoldable pub one_more : List ℕ → Batch → Option Line → Batch
one_more text b l =
    let left = drop b.written b.out in
    let r = answered b.state (line_of text b.read l) (length left) in
    record {
      state = r.state;
      read = behind l;
      out = take b.written b.out ++ output_after left r;
      written = b.written + length (lines_of r);
    }

-- no further call: the output that is left is short, or no newline follows
abbrev pub is_over_at : List ℕ → ℕ → ℕ → Bool
is_over_at text from room = ltb room 65536 || is_last (next_line text from)

abbrev pub is_over : List ℕ → Batch → Bool
is_over text b = is_over_at text b.read (length b.out - b.written)

-- the line of the next call
abbrev pub next_call : List ℕ → ℕ → ℕ → Option Line
next_call text from room = cond (is_over_at text from room) None (next_line text from)

-- at most k lines, one after the other: "Each call of the list gets the tables that the call before it left"
unfoldable pub answered_lines : ℕ → List ℕ → Batch → Batch
answered_lines zero text b = b
answered_lines (suc k) text b =
    let more = answered_lines k text (one_more text b (next_line text b.read)) in
    cond (is_over text b) b more

-- all of them: a line has a byte at least, its newline
abbrev pub answered_text : State → List ℕ → List ℕ → Batch
answered_text s text out = answered_lines (length text) text (record { state = s; read = 0; out = out; written = 0 })
