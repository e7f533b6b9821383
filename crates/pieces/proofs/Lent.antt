-- Lines answered into a lent output, as `answer` does it. Assumes nothing.
use mathlib.Core.Path.{◌≡◌, refl, ap, ◌∙◌}
use mathlib.Core.Bool.{true, false}
use mathlib.Core.List.{List, ◌++◌}
use Prim.Native.Nat.{ℕ, ◌+◌, ◌-◌, ◌≤◌}
use native.Mathlib.Omega.{arith}
use lib.ListN.{length, take, drop, length-drop}
use lib.Seq.{take-append_seam, length-take-le, drop-drop, slice, length-slice}
use Rattle.calculus.specs.declared.state.State.{State}
use Rattle.model.specs.Batch.{answered_text}
use Rattle.model.specs.Texts.{answers_to}
use Rattle.model.specs.Stream.{Stream, has_line, too_long, kept, lent, after_event}
use Rattle.model.proofs.Batch.{text_inside}
use Rattle.model.proofs.Texts.{texts}
use Rattle.simulator.specs.declared.calls.Answered.{Answered}
use Rattle.simulator.specs.Batch.{Answers}
use Rattle.pieces.specs.Keep.{Keeps}
use Rattle.pieces.specs.Progress.{stream_at, line_left, no_line_left, answered_into, Advances}
use Rattle.pieces.proofs.Spans.{take_least, part}
use Rattle.pieces.proofs.Lines.{none_kept}

-- t is the stream after the output was lent
module _ (s : Stream) (to : ℕ) (l out : List ℕ) {t : Stream} (e : after_event s (lent out) ≡ t) where
  pub into_line : has_line t.unread ≡ true → answered_into s to l out ≡ line_left t to l out
  unfolding answered_into
  into_line g = rw (ap (λ (x : Stream). has_line x.unread) e ∙ g) (ap (λ (x : Stream). line_left x to l out) e)

  pub into_none : has_line t.unread ≡ false → answered_into s to l out ≡ no_line_left t l out
  unfolding answered_into
  into_none g = rw (ap (λ (x : Stream). has_line x.unread) e ∙ g) (ap (λ (x : Stream). no_line_left x l out) e)

-- the output is what was written, and then as it was lent
text_output : (s : State) (text out : List ℕ) → let b = answered_text s text out in b.out ≡ take b.written b.out ++ drop b.written out
text_output s text out =
    let a = texts.each s text out in
    let b = answered_text s text out in
    let e : take b.written b.out ≡ answers_to s a.answered = rw (a.output, a.written) (take-append_seam _ _) in
    rw e a.output

-- where the first line stands that was not answered
abbrev next : ℕ → Answered → ℕ
next from a = from + a.read

module _ (s : State) (from to : ℕ) (l out left : List ℕ) (a : Answered) (h : from ≤ to) (k : to ≤ length l)
    (e : Answers left a (answered_text s (take (to - from) (drop from l)) out)) where
  -- the calls, by the definitions' part of the buffer
  same : Answers left a (answered_text s (slice from to l) out)
  same = rw part at e

  pub calls_inside : (next from a ≤ to) × (a.written ≤ length left)
  calls_inside =
      let w = text_inside s (slice from to l) out in
      rw (same.answered, same.output) (omega (arith, w.0, length-slice from to l k), w.1)

  -- the stream as the model has it, by what the calls left
  after_lent : after_event (stream_at s from to l) (lent out) ≡ record { state = a.state; unread = kept (slice (next from a) to l); written = take a.written left }
  after_lent = rw (same.answered, same.output, drop-drop _ from (take to l))

  count : length (take a.written left) ≡ a.written
  count = length-take-le a.written left calls_inside.1

  left_after : left ≡ take a.written left ++ drop (length (take a.written left)) out
  left_after = rw (count, same.answered, same.output) (text_output s (slice from to l) out)

  pub answer_line : has_line (take (to - next from a) (drop (next from a) l)) ≡ true
      → Advances (answered_into (stream_at s from to l) to l out) l left
      (record { state = a.state; from = next from a; to = to; wants = false; over = false; written = a.written })
  answer_line f =
      let v = slice (next from a) to l in
      let g : has_line v ≡ true = rw part at f in
      let t : after_event (stream_at s from to l) (lent out) ≡ record { state = a.state; unread = v; written = take a.written left } = after_lent ∙ rw g in
      let start : to - length v ≡ next from a = omega (arith, length-slice (next from a) to l k, calls_inside.0) in
      rw (into_line (stream_at s from to l) to l out t g) (record { progress = rw (start, count); buffer = refl; output = left_after })

  pub answer_none : has_line (take (to - next from a) (drop (next from a) l)) ≡ false → {l' : List ℕ} {n : ℕ} → Keeps l (next from a) to l' n
      → Advances (answered_into (stream_at s from to l) to l out) l' left
      (record { state = a.state; from = 0; to = n; wants = true; over = false; written = a.written })
  answer_none f {l'} {n} w =
      let v = slice (next from a) to l in
      let front = take n (drop (next from a) l) in
      let g : has_line v ≡ false = rw part at f in
      let u : take too_long v ≡ front = rw (← part (next from a) to l, take_least too_long (to - next from a) (drop (next from a) l), w.count) in
      let t : after_event (stream_at s from to l) (lent out) ≡ record { state = a.state; unread = front; written = take a.written left } = after_lent ∙ rw (g, u) in
      let size : length front ≡ n = length-take-le n (drop (next from a) l) (omega (arith, length-drop (next from a) l, w.count, calls_inside.0)) in
      rw (into_none (stream_at s from to l) to l out t (rw u at (none_kept v g))) (record { progress = rw (size, count); buffer = rw size w.bytes; output = left_after })
