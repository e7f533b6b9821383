-- After a round the unread bytes are inside the buffer, and what is written is inside the output. For callers of `advance`. Assumes nothing.
use mathlib.Core.List.{List}
use Prim.Native.Nat.{ℕ, ◌+◌, ◌≤◌, min}
use native.Mathlib.Omega.{arith}
use lib.ListN.{length, take, drop, length-append}
use Rattle.calculus.proofs.Tests.{either}
use Rattle.model.specs.Stream.{Stream, has_line, arrives, lent, after_event}
use Rattle.pieces.specs.declared.Progress.{Progress}
use Rattle.pieces.specs.Progress.{stream_of, is_end, Advanced, line_left, no_line_left, answered_into, ended, advanced, Advances}

record Inside (a : Advanced) : Type 0 where
  pub unread : a.progress.to ≤ length a.input
  pub written : a.progress.written ≤ length a.out

ended_inside : (s : Stream) (l out : List ℕ) → Inside (ended s l out)
unfolding ended
ended_inside s l out = record { unread = omega arith; written = simp length-append (omega arith) }

answered_inside : (s : Stream) (to : ℕ) (l out : List ℕ) → to ≤ length l → Inside (answered_into s to l out)
unfolding answered_into
answered_inside s to l out k =
    let t = after_event s (lent out) in
    either Inside (has_line t.unread) {x = line_left t to l out} {y = no_line_left t l out} (λ e. record { unread = k; written = simp length-append (omega arith) })
    (λ e. record { unread = simp length-append (omega arith); written = simp length-append (omega arith) })

advanced_inside : (p : Progress) (got : ℕ) (l out : List ℕ) → Inside (advanced p got l out)
unfolding advanced
advanced_inside p got l out =
    let s = after_event (stream_of p l) (arrives (take got (drop p.to l))) in
    either Inside (is_end p got) (λ e. ended_inside (stream_of p l) l out) (λ e. answered_inside s (min (p.to + got) (length l)) l out (omega arith))

pub advance_inside : (p : Progress) (got : ℕ) (l out : List ℕ) {input left : List ℕ} {r : Progress} → Advances (advanced p got l out) input left r
    → (r.to ≤ length input) × (r.written ≤ length left)
advance_inside p got l out w = let i = advanced_inside p got l out in rw (w.progress, w.buffer, w.output) (i.unread, i.written)
