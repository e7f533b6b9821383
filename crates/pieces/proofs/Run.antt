-- The loop writes the answers to the lines of its input. `runs` is the promise. Assumes nothing.
use mathlib.Core.Path.{◌≡◌, refl, sym, ap, ◌∙◌}
use mathlib.Core.Bool.{true, false}
use mathlib.Core.List.{List, [], ◌∷◌, ◌++◌, append_assoc, append-nil}
use Prim.Native.Nat.{ℕ, ◌+◌, ◌≤◌, min}
use native.Mathlib.Omega.{arith}
use lib.ListN.{length, take, drop}
use lib.Seq.{take-append_seam, drop-drop, slice}
use Rattle.calculus.proofs.Tests.{Way, is, isnt, way, clash, both}
use Rattle.forms.specs.Line.{line_length, lines}
use Rattle.model.specs.Lists.{fold}
use Rattle.model.specs.State.{fresh}
use Rattle.model.specs.Batch.{answered_text}
use Rattle.model.specs.Texts.{NoNewline, after_lines, answers_to}
use Rattle.model.specs.Stream.{Stream, Event, arrives, lent, after_event, streamed, input_of, has_line, too_long}
use Rattle.model.proofs.Stream.{streams}
use Rattle.pieces.specs.declared.Progress.{Progress}
use Rattle.pieces.specs.Progress.{started, stream_of, is_end, Advanced, answered_into, ended, advanced}
use Rattle.pieces.specs.Run.{written_by, Run, begun, went, Runs}
use Rattle.pieces.proofs.Spans.{part_again, part_more}
use Rattle.pieces.proofs.Lines.{no_newline, all_kept, kept_none}
use Rattle.pieces.proofs.Lent.{into_line, into_none}

-- ---- what a round leaves holds the stream

-- a holds the stream t, and what t wrote
record Holds (t : Stream) (a : Advanced) : Type 0 where
  pub stream : stream_of a.progress a.input ≡ record { state = t.state; unread = t.unread; written = [] }
  pub written : written_by a ≡ t.written
  pub none : a.progress.wants ≡ true → NoNewline t.unread
  pub bounded : a.progress.wants ≡ true → a.progress.to ≤ too_long

module _ (s : Stream) (from to : ℕ) (l out : List ℕ) (k : to ≤ length l) (e : s.unread ≡ slice from to l) where
  answered_holds : Holds (after_event s (lent out)) (answered_into s to l out)
  answered_holds = go (way (has_line (after_event s (lent out)).unread))
    where
      go : Way (has_line (after_event s (lent out)).unread) → Holds (after_event s (lent out)) (answered_into s to l out)
      go (is g) =
          let t = after_event s (lent out) in
          let read = (answered_text s.state s.unread out).read in
          let u : t.unread ≡ slice (from + read) to l = all_kept (drop read s.unread) g ∙ ap (drop read) e ∙ drop-drop read from (take to l) in
          rw (into_line s to l out refl g)
          (record {
            stream = ap {B = Stream} (λ (u : List ℕ). record { state = t.state; unread = u; written = [] }) (part_again t.unread l (from + read) to k u);
            written = take-append_seam t.written (drop (length t.written) out);
            none = λ q. clash cc;
            bounded = λ q. clash cc;
          })
      go (isnt g) =
          let t = after_event s (lent out) in
          let rest = drop (answered_text s.state s.unread out).read s.unread in
          rw (into_none s to l out refl g)
          (record {
            stream = ap {B = Stream} (λ (u : List ℕ). record { state = t.state; unread = u; written = [] }) (take-append_seam t.unread (drop (length t.unread) l));
            written = take-append_seam t.written (drop (length t.written) out);
            none = λ q. no_newline t.unread g;
            bounded = λ q. streams.bounded rest (no_newline rest (kept_none rest g));
          })

-- ---- events one after the other

fold_append : {A B : Type 0} (f : B → A → B) (b : B) (xs ys : List A) → fold f b (xs ++ ys) ≡ fold f (fold f b xs) ys
fold_append f b [] ys = refl
fold_append f b (x ∷ xs) ys = fold_append f (f b x) xs ys

input_append : (es fs : List Event) → input_of (es ++ fs) ≡ input_of es ++ input_of fs
input_append [] fs = refl
input_append (arrives p ∷ es) fs = rw (input_append es fs, append_assoc p (input_of es) (input_of fs))
input_append (lent out ∷ es) fs = input_append es fs

-- ---- a run is a list of events

record Followed (input written l : List ℕ) (p : Progress) : Type 0 where
  pub events : List Event
  pub stream : streamed fresh events ≡ record { state = p.state; unread = slice p.from p.to l; written = written }
  pub came : input_of events ≡ input
  pub none : p.wants ≡ true → NoNewline (slice p.from p.to l)
  pub bounded : p.wants ≡ true → p.to ≤ too_long

followed_none : (l : List ℕ) → Followed [] [] l started
unfolding line_length
followed_none l = record { events = []; stream = refl; came = refl; none = λ q. refl; bounded = λ q. omega arith }

module _ {input written l : List ℕ} {p : Progress} (w : Followed input written l p) (l₁ out : List ℕ) (got : ℕ) (e : take p.to l₁ ≡ take p.to l) where
  -- a piece comes and an output is lent
  followed_holds : (a : Advanced) → let piece = take got (drop p.to l₁) in Holds (after_event (after_event (stream_of p l₁) (arrives piece)) (lent out)) a
      → Followed (input ++ piece) (written ++ written_by a) a.input a.progress
  followed_holds a h =
      let piece = take got (drop p.to l₁) in
      let es = arrives piece ∷ lent out ∷ [] in
      let t = after_event (after_event (stream_of p l₁) (arrives piece)) (lent out) in
      record {
        events = w.events ++ es;
        stream = fold_append after_event (record { state = fresh; unread = []; written = [] }) w.events es ∙ rw (w.stream, ← e, h.written)
            (ap {B = Stream} (λ (x : Stream). record { state = x.state; unread = x.unread; written = written ++ t.written }) (sym h.stream));
        came = input_append w.events es ∙ rw (w.came, append-nil piece);
        none = λ q. rw (ap (λ (x : Stream). x.unread) h.stream) (h.none q);
        bounded = h.bounded;
      }

  followed_more : is_end p got ≡ false
      → Followed (input ++ take got (drop p.to l₁)) (written ++ written_by (advanced p got l₁ out)) (advanced p got l₁ out).input (advanced p got l₁ out).progress
  unfolding advanced
  followed_more f =
      followed_holds (advanced p got l₁ out)
      (rw f (answered_holds (after_event (stream_of p l₁) (arrives (take got (drop p.to l₁)))) (min p.from (min p.to (length l₁))) (min (p.to + got) (length l₁)) l₁ out
      (omega arith) (sym (part_more p.from p.to got l₁))))

  followed_ended : is_end p got ≡ true → 65536 ≤ length out
      → let a = advanced p got l₁ out in
      (written ++ written_by a ≡ answers_to fresh (lines input)) × (a.progress.state ≡ after_lines fresh (lines input)) × (a.progress.over ≡ true)
  unfolding advanced ended
  followed_ended f h =
      let all = (rw (w.stream, w.came) at (streams.ended fresh w.events (length out))) (w.none (both _ _ f).0) h in
      rw (f, e) (rw take-append_seam all.0, all.1, refl)

followed : {input written l : List ℕ} {p : Progress} → Run input written l p → Followed input written l p
followed (begun l) = followed_none l
followed (went w l₁ out got e f) = followed_more (followed w) l₁ out got e f

pub runs : Runs
runs =
    record {
      ended = λ w l₁ out got e f h. followed_ended (followed w) l₁ out got e f h;
      bounded = λ w q. (followed w).bounded q;
    }
