-- The calls of a text are a list of calls. `texts` is the promise. Assumes nothing.
use mathlib.Core.Path.{◌≡◌, refl, ap, ◌∙◌}
use mathlib.Core.Bool.{Bool, true, false, ◌||◌}
use mathlib.Core.List.{List, [], ◌∷◌, ◌++◌, append_assoc, append-nil}
use Rattle.std.specs.Prelude.{Some}
use Prim.Native.Nat.{ℕ, zero, suc, ◌+◌, ◌-◌, ◌≤◌}
use native.Mathlib.Omega.{arith}
use borrow.Author.Tests.{ltb-false, le-ltb}
use lib.ListN.{length, take, drop, length-drop, length-append, drop_of_length-le}
use lib.Seq.{drop-drop, take-append_seam, drop-append_seam}
use Rattle.calculus.specs.declared.state.State.{State}
use Rattle.calculus.proofs.Tests.{Way, is, isnt, way, clash}
use Rattle.forms.specs.Line.{line_length, next_line, lines}
use Rattle.forms.specs.declared.line.Line.{Line}
use Rattle.model.specs.Calls.{Reply, answered, lines_of, after, replies}
use Rattle.model.specs.Batch.{Batch, is_last, line_of, is_over_at, is_over, one_more, answered_lines, answered_text}
use Rattle.model.specs.Texts.{after_lines, answers_to, NoNewline, AnswersText, Texts}
use Rattle.model.proofs.Batch.{lines_over, lines_more, text_inside}
use Rattle.model.proofs.Newlines.{lines_ended, Ended, line_ended, line_last}

-- ---- the calls

-- with 65,535 bytes left of the output there is no further call, with 65,536 there is where a line ends in a newline
room_short : (text : List ℕ) (from : ℕ) → is_over_at text from 65535 ≡ true
room_short text from = refl

room_enough : (text : List ℕ) (from : ℕ) → is_over_at text from 65536 ≡ is_last (next_line text from)
room_enough text from = refl

-- how far the calls have come: `done` is written, and `left` of the output stays
abbrev at : State → ℕ → List ℕ → List ℕ → Batch
at s from done left = record { state = s; read = from; out = done ++ left; written = length done }

-- the reply to the line that starts at `from`
abbrev reply_at : List ℕ → State → ℕ → Reply
reply_at text s from = answered s (take (line_length (drop from text)) (drop from text)) 65536

-- any room that suffices for a call is as good as another
pub answered_roomy : (s : State) (line : List ℕ) (size : ℕ) → 65536 ≤ size → answered s line size ≡ answered s line 65536
unfolding answered
answered_roomy s line size h = rw (le-ltb size 65536 h)

-- a line that ends in the newline at `stop`
abbrev ended_at : ℕ → Line
ended_at stop = record { stop = stop; next = stop + 1 }

-- the line of a call stands before its newline
line_before : (text : List ℕ) (from k : ℕ) → line_of text from (Some (ended_at (from + k))) ≡ take k (drop from text)
line_before text from k = let d : from + k - from ≡ k = omega arith in cc

-- one line more: its answers are written behind `done`
one_more_lem : (text : List ℕ) (s : State) (from k : ℕ) (done left : List ℕ) → 65536 ≤ length left
    → let r = answered s (take k (drop from text)) 65536 in
    one_more text (at s from done left) (Some (ended_at (from + k))) ≡ at r.state (from + k + 1) (done ++ lines_of r) (drop (length (lines_of r)) left)
unfolding one_more
one_more_lem text s from k done left h =
    rw (take-append_seam done left, drop-append_seam done left, line_before text from k, answered_roomy s (take k (drop from text)) (length left) h, ← append_assoc, length-append)

-- the calls that at most `fuel` lines are, from where `done` is written
record Onward (text : List ℕ) (s : State) (from : ℕ) (done left : List ℕ) (fuel : ℕ) : Type 0 where
  pub ls : List (List ℕ)
  pub to : ℕ
  pub same : answered_lines fuel text (at s from done left) ≡ at (after_lines s ls) to (done ++ answers_to s ls) (drop (length (answers_to s ls)) left)
  pub first : (more : List ℕ) → lines (drop from text ++ more) ≡ ls ++ lines (drop to text ++ more)
  pub all : length text ≤ from + fuel → 65536 ≤ length left - length (answers_to s ls) → NoNewline (drop to text)

or_left : (a b : Bool) → (a || b) ≡ false → (a ≡ false) × (b ≡ false)
or_left true b e = clash cc
or_left false b e = (refl, e)

or_right : (a b : Bool) → (a || b) ≡ true → a ≡ false → b ≡ true
or_right true b e f = clash cc
or_right false b e f = e

-- how much room is left
room : (done left : List ℕ) → length (done ++ left) - length done ≡ length left
room done left = simp length-append (omega arith)

module _ (text : List ℕ) (s : State) (from : ℕ) (done left : List ℕ) (fuel : ℕ) where
  -- no call: nothing is written
  onward_none : answered_lines fuel text (at s from done left) ≡ at s from done left
      → (length text ≤ from + fuel → 65536 ≤ length left → NoNewline (drop from text)) → Onward text s from done left fuel
  unfolding after replies
  onward_none e h =
      record { ls = []; to = from; same = rw (append-nil done) e; first = λ more. refl; all = λ x y. h x (omega arith) }

  -- one call, and then those behind it
  onward_more : 65536 ≤ length left → Ended text from
      → answered_lines (suc fuel) text (at s from done left) ≡ answered_lines fuel text (one_more text (at s from done left) (next_line text from))
      → let r = reply_at text s from in
      Onward text r.state (from + line_length (drop from text) + 1) (done ++ lines_of r) (drop (length (lines_of r)) left) fuel
      → Onward text s from done left (suc fuel)
  unfolding after replies
  onward_more h e q w =
      let k = line_length (drop from text) in
      let line = take k (drop from text) in
      let r = reply_at text s from in
      let a = answers_to r.state w.ls in
      let one = one_more_lem text s from k done left h in
      let n : from + suc k ≡ from + k + 1 = omega arith in
      record {
        ls = line ∷ w.ls;
        to = w.to;
        same = q ∙ rw (e.found, one, w.same, append_assoc done (lines_of r) a, drop-drop (length a) (length (lines_of r)) left, length-append (lines_of r) a);
        first = λ more. lines_ended (drop from text) more e.newline ∙ rw (drop-drop (suc k) from text, n) (ap (λ (ls : List (List ℕ)). line ∷ ls) (w.first more));
        all = λ x y. w.all (omega arith) (omega (arith, length-drop (length (lines_of r)) left, length-append (lines_of r) a));
      }

onward : (text : List ℕ) (s : State) (from : ℕ) (done left : List ℕ) (fuel : ℕ) → Onward text s from done left fuel
unfolding answered_lines line_length
onward text s from done left zero = onward_none text s from done left zero refl λ h r. rw (drop_of_length-le text {i = from} (omega arith))
onward text s from done left (suc fuel) =
    let r = reply_at text s from in
    go (way (is_over text (at s from done left)))
    (onward text r.state (from + line_length (drop from text) + 1) (done ++ lines_of r) (drop (length (lines_of r)) left) fuel)
  where
    go : Way (is_over text (at s from done left))
        → let r = reply_at text s from in
        Onward text r.state (from + line_length (drop from text) + 1) (done ++ lines_of r) (drop (length (lines_of r)) left) fuel
        → Onward text s from done left (suc fuel)
    go (is e) w =
        onward_none text s from done left (suc fuel) (lines_over (suc fuel) text (at s from done left) e)
        λ h r. line_last text from (or_right _ _ e (le-ltb (length (done ++ left) - length done) 65536 (omega (arith, room done left))))
    go (isnt e) w =
        let o = or_left _ _ e in
        onward_more text s from done left fuel (omega (arith, room done left, ltb-false (length (done ++ left) - length done) 65536 o.0)) (line_ended text from o.1)
        (lines_more fuel text (at s from done left) e) w

text_calls : (s : State) (text out : List ℕ) → Onward text s 0 [] out (length text) → AnswersText s text out (answered_text s text out)
text_calls s text out w =
    record {
      answered = w.ls;
      first = λ more. rw w.same (w.first more);
      state = rw w.same;
      written = rw w.same;
      output = rw w.same;
      all = λ h. rw w.same (w.all (omega arith) (rw w.same at h));
      inside = (text_inside s text out).0;
    }

pub texts : Texts
texts = record { each = λ s text out. text_calls s text out (onward text s 0 [] out (length text)) }
