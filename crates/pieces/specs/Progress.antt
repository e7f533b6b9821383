-- How far the input is answered, and a round of it, as the code has them. Cited by `start`, `advance` and the functions below it.
-- Assumes nothing.
use Rattle.std.specs.Prelude.{◌≡◌, Bool, true, false, cond, ◌&&◌, List, [], ◌++◌, ℕ, ◌+◌, ◌-◌, min, eqb, length, take, drop}
use Rattle.std.proofs.Math.Seq.{slice}
use Rattle.calculus.specs.declared.state.State.{State}
use Rattle.model.specs.State.{fresh}
use Rattle.model.specs.Calls.{lines_of, output_after}
use Rattle.model.specs.Stream.{Stream, has_line, arrives, lent, after_event, finished}
use Rattle.pieces.specs.declared.Progress.{Progress}

-- nothing came yet: no node, route or session stands, and the first piece is wanted
abbrev pub started : Progress
started = record { state = fresh; from = 0; to = 0; wants = true; over = false; written = 0 }

-- a stream in the state s of which nothing is written: the bytes of the buffer l from `from` up to `to` are unread
abbrev pub stream_at : State → ℕ → ℕ → List ℕ → Stream
stream_at s from to l = record { state = s; unread = slice from to l; written = [] }

-- the stream that p is with the buffer l
abbrev pub stream_of : Progress → List ℕ → Stream
stream_of p l = stream_at p.state p.from p.to l

-- the input is at its end: more is wanted, and nothing came
abbrev pub is_end : Progress → ℕ → Bool
is_end p got = p.wants && eqb got 0

-- what a round leaves: how far the input is answered; the buffer and the lent output, each whole
pub record Advanced : Type 0 where
  pub progress : Progress
  pub input : List ℕ
  pub out : List ℕ

-- a whole line is left in the stream t: its bytes stay where they stand in the buffer l, before `to`
abbrev pub line_left : Stream → ℕ → List ℕ → List ℕ → Advanced
line_left t to l out =
    record {
      progress = record { state = t.state; from = to - length t.unread; to = to; wants = false; over = false; written = length t.written };
      input = l;
      out = t.written ++ drop (length t.written) out;
    }

-- no whole line is left in the stream t: what is left of one goes to the front of the buffer l, and more is wanted
abbrev pub no_line_left : Stream → List ℕ → List ℕ → Advanced
no_line_left t l out =
    record {
      progress = record { state = t.state; from = 0; to = length t.unread; wants = true; over = false; written = length t.written };
      input = t.unread ++ drop (length t.unread) l;
      out = t.written ++ drop (length t.written) out;
    }

-- lines of the stream s, whose unread bytes stand before `to` in the buffer l, are answered into `out`
unfoldable pub answered_into : Stream → ℕ → List ℕ → List ℕ → Advanced
answered_into s to l out =
    let t = after_event s (lent out) in
    cond (has_line t.unread) (line_left t to l out) (no_line_left t l out)

-- the input of the stream s is at its end, and its tail is answered into `out`: nothing is unread, and no more is wanted
unfoldable pub ended : Stream → List ℕ → List ℕ → Advanced
ended s l out =
    let m = finished s.state s.unread (length out) in
    record {
      progress = record { state = m.state; from = 0; to = 0; wants = false; over = true; written = length (lines_of m) };
      input = l;
      out = output_after out m;
    }

-- a round of p: `got` bytes came behind its own into the buffer l, and `out` is lent
unfoldable pub advanced : Progress → ℕ → List ℕ → List ℕ → Advanced
advanced p got l out =
    let s = after_event (stream_of p l) (arrives (take got (drop p.to l))) in
    cond (is_end p got) (ended (stream_of p l) l out) (answered_into s (min (p.to + got) (length l)) l out)

-- r, the buffer `input` and the output `left` are what a says
pub record Advances (a : Advanced) (input left : List ℕ) (r : Progress) : Type 0 where
  pub progress : r ≡ a.progress
  pub buffer : input ≡ a.input
  pub output : left ≡ a.out
