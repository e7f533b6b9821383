-- Where a reader stands once its line is read. `rest` cites it. Assumes nothing.
use Rattle.std.specs.Prelude.{ℕ, List, Option, Some, None}
use Rattle.forms.specs.declared.line.Line.{Line}
use Rattle.forms.specs.Line.{next_line}

-- behind a line that was found from `at` on; at the end of input still at `at`
abbrev pub past : ℕ → Option Line → ℕ
past at (Some x) = x.next
past at None = at

-- behind the line of the input l that starts at `at`
abbrev pub behind : List ℕ → ℕ → ℕ
behind l at = past at (next_line l at)
