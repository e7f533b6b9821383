-- The calls of a text: when there is no further one, and that they stay inside the text and the output. Assumes nothing.
use mathlib.Core.Path.{◌≡◌, refl}
use mathlib.Core.Bool.{true, false}
use mathlib.Core.List.{List}
use Rattle.std.specs.Prelude.{Option, Some, None}
use Prim.Native.Nat.{ℕ, zero, suc, ◌≤◌}
use native.Mathlib.Omega.{arith}
use lib.ListN.{length, length-append}
use lib.Seq.{length-take-le}
use Rattle.calculus.proofs.Tests.{either}
use Rattle.calculus.specs.declared.state.State.{State}
use Rattle.forms.specs.Line.{next_line}
use Rattle.forms.specs.declared.line.Line.{Line}
use Rattle.forms.proofs.Splits.{line_inside}
use Rattle.model.specs.Batch.{Batch, behind, one_more, is_over, answered_lines, answered_text}

-- ---- one line more, or none

-- where the batch is over, nothing more is answered, whatever the number of lines
pub lines_over : (k : ℕ) (text : List ℕ) (b : Batch) → is_over text b ≡ true → answered_lines k text b ≡ b
unfolding answered_lines
lines_over zero text b e = refl
lines_over (suc k) text b e = rw e

-- otherwise one more line is
pub lines_more : (k : ℕ) (text : List ℕ) (b : Batch) → is_over text b ≡ false → answered_lines (suc k) text b ≡ answered_lines k text (one_more text b (next_line text b.read))
unfolding answered_lines
lines_more k text b e = rw e

-- ---- inside the text and the output

abbrev Within : List ℕ → Batch → Type 0
Within text b = (b.read ≤ length text) × (b.written ≤ length b.out)

behind_inside : (text : List ℕ) (from : ℕ) → behind (next_line text from) ≤ length text
behind_inside text from = go (next_line text from) refl
  where
    go : (l : Option Line) → next_line text from ≡ l → behind l ≤ length text
    go (Some x) e = (line_inside text from x e).within
    go None e = omega arith

more_inside : (text : List ℕ) (b : Batch) → Within text b → Within text (one_more text b (next_line text b.read))
unfolding one_more
more_inside text b h =
    let w = h.1 in
    (behind_inside text b.read, simp (length-append, length-take-le) (omega arith))

lines_inside : (k : ℕ) (text : List ℕ) (b : Batch) → Within text b → Within text (answered_lines k text b)
unfolding answered_lines
lines_inside zero text b h = h
lines_inside (suc k) text b h =
    either (Within text) (is_over text b) (λ e. h) (λ e. lines_inside k text (one_more text b (next_line text b.read)) (more_inside text b h))

-- no more is read than the text has, and no more written than the output has
pub text_inside : (s : State) (text out : List ℕ) → let b = answered_text s text out in (b.read ≤ length text) × (b.written ≤ length b.out)
text_inside s text out = lines_inside (length text) text (record { state = s; read = 0; out = out; written = 0 }) (omega arith, omega arith)
