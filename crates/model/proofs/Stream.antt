-- However the input is cut into pieces, its lines are answered. `streams` is the promise. Assumes nothing.
use mathlib.Core.Path.{◌≡◌, refl, sym, ap, ◌∙◌}
use mathlib.Core.Bool.{true}
use mathlib.Core.List.{List, [], ◌∷◌, ◌++◌, append_assoc, append-nil}
use Prim.Native.Nat.{ℕ, zero, suc, ◌≤◌, ◌<◌}
use native.Mathlib.Omega.{arith}
use borrow.Author.Tests.{ne_eqb, ltb-true, le-ltb}
use lib.ListN.{length, take, drop, length-append, length-take, length-drop}
use lib.Seq.{take-append_seam}
use Rattle.calculus.proofs.Tests.{either}
use Rattle.calculus.specs.declared.state.State.{State}
use Rattle.forms.specs.Line.{line_length, lines}
use Rattle.model.specs.Lists.{fold}
use Rattle.model.specs.Calls.{Reply, answered, lines_of, after, replies}
use Rattle.model.specs.Batch.{answered_text}
use Rattle.model.specs.Texts.{answers_to, NoNewline, AnswersText}
use Rattle.model.specs.Stream.{Stream, has_line, too_long, kept, Event, arrives, lent, after_event, streamed, input_of, finished, Streams}
use Rattle.model.proofs.Texts.{texts, answered_roomy}
use Rattle.model.proofs.Unfinished.{Total, total, total_append, total_kept, lines_unfinished}

-- ---- the events

-- all that comes of a stream and of what is still to come
abbrev whole : Stream → List ℕ → Total
whole t more = total t.state t.written (lines (t.unread ++ more))

-- a stream of which nothing came yet
abbrev begun : State → Stream
begun s = record { state = s; unread = []; written = [] }

abbrev piece_of : Event → List ℕ
piece_of (arrives p) = p
piece_of (lent out) = []

-- a piece goes behind what is unread
unread_arrives : (t : Stream) (p : List ℕ) → (after_event t (arrives p)).unread ≡ t.unread ++ p
unread_arrives t p = refl

total_lent : (s : State) (u w out more : List ℕ) → let b = answered_text s u out in AnswersText s u out b
    → total s w (lines (u ++ more)) ≡ total b.state (w ++ take b.written b.out) (lines (drop b.read u ++ more))
total_lent s u w out more a =
    let b = answered_text s u out in
    let e : take b.written b.out ≡ answers_to s a.answered = rw (a.output, a.written) (take-append_seam _ _) in
    rw (a.first more, total_append s w a.answered (lines (drop b.read u ++ more)), e, a.state)

whole_event : (t : Stream) (e : Event) (more : List ℕ) → whole t (piece_of e ++ more) ≡ whole (after_event t e) more
whole_event t (arrives p) more = rw (unread_arrives t p, append_assoc t.unread p more)
whole_event t (lent out) more =
    let b = answered_text t.state t.unread out in
    total_lent t.state t.unread t.written out more (texts.each t.state t.unread out)
    ∙ sym (total_kept b.state (t.written ++ take b.written b.out) (drop b.read t.unread) more)

whole_streamed : (es : List Event) (t : Stream) (more : List ℕ) → whole t (input_of es ++ more) ≡ whole (fold after_event t es) more
whole_streamed [] t more = refl
whole_streamed (arrives p ∷ es) t more = rw (append_assoc p (input_of es) more) (whole_event t (arrives p) (input_of es ++ more)) ∙ whole_streamed es (after_event t (arrives p)) more
whole_streamed (lent out ∷ es) t more = whole_event t (lent out) (input_of es ++ more) ∙ whole_streamed es (after_event t (lent out)) more

-- ---- the end of the input

lines_tail : (u : List ℕ) → 0 < length u → NoNewline u → lines u ≡ u ∷ []
unfolding lines
lines_tail u h n = ap lines (sym (append-nil u)) ∙ lines_unfinished u [] h n

lines_none : lines [] ≡ []
unfolding lines
lines_none = refl

-- a stream that is over: w is written, and then the answers of r
abbrev over : List ℕ → Reply → Total
over w r = record { state = r.state; written = w ++ lines_of r }

total_one : (s : State) (w u : List ℕ) → total s w (u ∷ []) ≡ over w (answered s u 65536)
unfolding after replies
total_one s w u = rw (append-nil (lines_of (answered s u 65536)))

-- a tail of one byte is a call, and so is a longer one
finished_byte : (s : State) (c size : ℕ) → finished s (c ∷ []) size ≡ answered s (c ∷ []) size
finished_byte s c size = refl

finished_tail : (s : State) (c : ℕ) (u : List ℕ) (size : ℕ) → finished s (c ∷ u) size ≡ answered s (c ∷ u) size
finished_tail s c u size = rw (ne_eqb (suc (length u)) 0 (λ e. omega arith))

total_finished : (s : State) (w u : List ℕ) (size : ℕ) → NoNewline u → 65536 ≤ size → total s w (lines u) ≡ over w (finished s u size)
unfolding after replies
total_finished s w [] size n h = ap (total s w) lines_none
total_finished s w (c ∷ u) size n h =
    ap (total s w) (lines_tail (c ∷ u) (omega arith) n) ∙ total_one s w (c ∷ u)
    ∙ ap (over w) (sym (finished_tail s c u size ∙ answered_roomy s (c ∷ u) size h))

stream_ended : (s : State) (es : List Event) (size : ℕ)
    → let t = streamed s es in
    NoNewline t.unread → 65536 ≤ size → total s [] (lines (input_of es)) ≡ over t.written (finished t.state t.unread size)
stream_ended s es size n h =
    let t = streamed s es in
    (rw (append-nil (input_of es), append-nil t.unread) at (whole_streamed es (begun s) [])) ∙ total_finished t.state t.written t.unread size n h

-- ---- how much is left

kept_most : (l : List ℕ) → length (kept l) ≤ length l
kept_most l = either (λ (k : List ℕ). length k ≤ length l) (has_line l) (λ e. omega arith) (λ e. simp length-take (omega arith))

kept_bounded : (l : List ℕ) → NoNewline l → length (kept l) ≤ too_long
kept_bounded l n = rw (le-ltb (line_length l) (length l) (omega arith)) (simp length-take (omega arith))

-- where no line is answered, nothing is written
nothing_written : (s : State) (ls : List (List ℕ)) → length ls ≡ 0 → length (answers_to s ls) ≡ 0
unfolding replies
nothing_written s [] e = refl
nothing_written s (l ∷ ls) e = absurd (omega arith)

reads_some : (s : State) (u out : List ℕ) → has_line u ≡ true → 65536 ≤ length out → let b = answered_text s u out in AnswersText s u out b → 0 < b.read
reads_some s u out e h a = go (answered_text s u out).read refl
  where
    go : (k : ℕ) → (answered_text s u out).read ≡ k → 0 < (answered_text s u out).read
    go (suc k) q = omega arith
    go zero q =
        let none : length a.answered ≡ 0 = omega (arith, length-append a.answered (lines (u ++ [])), ap length (rw q at (a.first []))) in
        let n : NoNewline u = rw q at (a.all (omega (arith, a.written, nothing_written s a.answered none))) in
        absurd (omega (arith, ltb-true (line_length u) (length u) e))

stream_shorter : (t : Stream) (out : List ℕ) → has_line t.unread ≡ true → 65536 ≤ length out → length (after_event t (lent out)).unread < length t.unread
stream_shorter t out e h =
    let b = answered_text t.state t.unread out in
    let r : 0 < b.read = reads_some t.state t.unread out e h (texts.each t.state t.unread out) in
    omega (arith, kept_most (drop b.read t.unread), length-drop b.read t.unread, ltb-true (line_length t.unread) (length t.unread) e)

pub streams : Streams
streams =
    record {
      written = λ s es more. ap (λ (o : Total). o.written) (whole_streamed es (begun s) more);
      state = λ s es more. ap (λ (o : Total). o.state) (whole_streamed es (begun s) more);
      ended = λ s es size n h.
          let e = sym (stream_ended s es size n h) in
          (ap (λ (o : Total). o.written) e, ap (λ (o : Total). o.state) e);
      shorter = stream_shorter;
      bounded = kept_bounded;
    }
