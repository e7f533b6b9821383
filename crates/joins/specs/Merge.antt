-- A file that was read, and the lines of two networks' texts, place by place. Private functions of `joins` cite it. Assumes nothing.
use Rattle.std.specs.Prelude.{ℕ, ◌-◌, ◌≡◌, Bool, false, cond, List, [], ltb, get_or, take, drop, Option, Some, None, is_some}
use Rattle.std.specs.Borrow.{Bor}
use Rattle.std.proofs.Math.Option.{some}
use Rattle.calculus.specs.declared.network.Network.{Network}
use Rattle.lines.specs.Behind.{behind}
use Rattle.model.specs.Join.{File, is_sorted}
use Rattle.joins.specs.declared.text.NetworkText.{NetworkText}

-- what is found in f: its text, if it is sorted
abbrev pub Finds : File → Option NetworkText → Type 0
Finds f None = is_sorted f ≡ false
Finds f (Some x) = f ≡ some x.text.now

-- n has a line at place k: that of node k + 1 or, behind the 32 nodes, of the route at place k − 32
abbrev pub has_entry : Network → ℕ → Bool
has_entry n k = cond (ltb k 32) (is_some (get_or n.nodes k None)) (is_some (get_or n.routes (k - 32) None))

-- the line of l that starts at `from`, with its newline, if it is there
abbrev pub line_part : List ℕ → ℕ → Bool → List ℕ
line_part l from there = cond there (take (behind l from - from) (drop from l)) []

-- the bytes of a line that may be there
abbrev pub line_of : Option (Bor (List ℕ)) → List ℕ
line_of None = []
line_of (Some l) = l.now
