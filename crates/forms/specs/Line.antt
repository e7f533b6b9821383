-- Input split into lines. `next_line` cites it. Assumes nothing.
use Rattle.std.specs.Prelude.{ℕ, suc, ◌+◌, ◌-◌, ◌≡◌, cond, List, [], ◌∷◌, Option, Some, None, ltb, eqb, length, take, drop}
use Rattle.forms.specs.declared.line.Line.{Line}

-- how many bytes of l stand before its first newline, or before its end
unfoldable pub line_length : List ℕ → ℕ
line_length [] = 0
line_length (c ∷ l) = cond (eqb c 10) 0 (suc (line_length l))

-- the line of the input l that ends before `stop`: the next one starts behind its newline, or at the end of input
abbrev pub line_to : List ℕ → ℕ → Option Line
line_to l stop = Some (record { stop = stop; next = cond (ltb stop (length l)) (stop + 1) stop })

-- the line of the input l that starts at `from`; "an empty tail is no line"
abbrev pub next_line : List ℕ → ℕ → Option Line
next_line l from = cond (ltb from (length l)) (line_to l (from + line_length (drop from l))) None

-- c in front of the first of the lines
abbrev pub with_first : ℕ → List (List ℕ) → List (List ℕ)
with_first c [] = (c ∷ []) ∷ []
with_first c (x ∷ xs) = (c ∷ x) ∷ xs

-- the lines of an input: "ended by a newline or the end of input"
unfoldable pub lines : List ℕ → List (List ℕ)
lines [] = []
lines (c ∷ l) = cond (eqb c 10) ([] ∷ lines l) (with_first c (lines l))

-- the lines of l from `from` on, by the line that starts there
abbrev pub lines_by : List ℕ → ℕ → Option Line → List (List ℕ)
lines_by l from (Some x) = take (x.stop - from) (drop from l) ∷ lines (drop x.next l)
lines_by l from None = []

-- line by line, `next_line` gives the lines of the input
pub record SplitsLines : Type 0 where
  pub split : (l : List ℕ) (from : ℕ) → lines (drop from l) ≡ lines_by l from (next_line l from)
