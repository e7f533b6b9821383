-- The calls of a text are a list of calls: what is promised of lists of calls is promised of texts. Proved in proofs/Texts. Assumes nothing.
use Rattle.std.specs.Prelude.{ℕ, ◌-◌, ◌≤◌, ◌≡◌, List, ◌++◌, map, length, drop}
use Rattle.calculus.specs.declared.state.State.{State}
use Rattle.forms.specs.Bytes.{joined}
use Rattle.forms.specs.Line.{line_length, lines}
use Rattle.model.specs.Calls.{lines_of, after, replies, roomy_call}
use Rattle.model.specs.Batch.{Batch, answered_text}

-- the state that the lines ls leave of s, each a call
abbrev pub after_lines : State → List (List ℕ) → State
after_lines s ls = after s (map roomy_call ls)

-- the bytes of the answers to the lines ls from s on
abbrev pub answers_to : State → List (List ℕ) → List ℕ
answers_to s ls = joined (map lines_of (replies s (map roomy_call ls)))

-- no newline stands in l
abbrev pub NoNewline : List ℕ → Type 0
NoNewline l = line_length l ≡ length l

-- b is where the calls of `text` have come to from s, the lent output having been `out`
pub record AnswersText (s : State) (text out : List ℕ) (b : Batch) : Type 0 where
  -- the lines that were answered: the first ones of the text, whatever is to come behind it; the others stand behind what is read
  pub answered : List (List ℕ)
  pub first : (more : List ℕ) → lines (text ++ more) ≡ answered ++ lines (drop b.read text ++ more)
  -- the state is what a list of these calls leaves, and what is written are the lines of its replies; the output past them stays
  pub state : b.state ≡ after_lines s answered
  pub written : b.written ≡ length (answers_to s answered)
  pub output : b.out ≡ answers_to s answered ++ drop b.written out
  -- with room for a call left, every line that ends in a newline is answered
  pub all : 65536 ≤ length out - b.written → NoNewline (drop b.read text)
  pub inside : b.read ≤ length text

pub record Texts : Type 0 where
  pub each : (s : State) (text out : List ℕ) → AnswersText s text out (answered_text s text out)
