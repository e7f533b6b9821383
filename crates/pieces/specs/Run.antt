-- The loop of a program that reads, makes a round and writes. Proved in proofs/Run: it writes the answers to the lines of its input.
-- Assumes nothing.
use Rattle.std.specs.Prelude.{◌≡◌, true, false, List, [], ◌++◌, ℕ, ◌≤◌, length, take, drop}
use Rattle.forms.specs.Line.{lines}
use Rattle.model.specs.State.{fresh}
use Rattle.model.specs.Texts.{after_lines, answers_to}
use Rattle.model.specs.Stream.{too_long}
use Rattle.pieces.specs.declared.Progress.{Progress}
use Rattle.pieces.specs.Progress.{started, is_end, Advanced, advanced}

-- the bytes that a round wrote
abbrev pub written_by : Advanced → List ℕ
written_by a = take a.progress.written a.out

-- `input` came and `written` was written; the buffer is l, and p says how far the input is answered. A read leaves the bytes of the buffer
-- before those that it brings, and what a round wrote into the output is written
pub data Run : List ℕ → List ℕ → List ℕ → Progress → Type 0 where
  begun : (l : List ℕ) → Run [] [] l started
  went : {input written l : List ℕ} {p : Progress} → Run input written l p → (l₁ out : List ℕ) (got : ℕ)
      → take p.to l₁ ≡ take p.to l → is_end p got ≡ false
      → Run (input ++ take got (drop p.to l₁)) (written ++ written_by (advanced p got l₁ out)) (advanced p got l₁ out).input (advanced p got l₁ out).progress

pub record Runs : Type 0 where
  -- at the end of the input, with what the last round writes, the answers to all lines of the input are written
  pub ended : {input written l : List ℕ} {p : Progress} → Run input written l p → (l₁ out : List ℕ) (got : ℕ)
      → take p.to l₁ ≡ take p.to l → is_end p got ≡ true → 65536 ≤ length out
      → let a = advanced p got l₁ out in
      (written ++ written_by a ≡ answers_to fresh (lines input))
      × (a.progress.state ≡ after_lines fresh (lines input)) × (a.progress.over ≡ true)
  -- where more is wanted, a buffer of more than 401 bytes has room for it
  pub bounded : {input written l : List ℕ} {p : Progress} → Run input written l p → p.wants ≡ true → p.to ≤ too_long
