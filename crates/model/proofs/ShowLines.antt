-- How long show's lines are: they fit into the lent output. Assumes nothing.
use mathlib.Core.Bool.{Bool, true, false, ◌&&◌}
use mathlib.Core.List.{List, [], ◌∷◌, map}
use Prim.Native.Nat.{ℕ, ◌≤◌, ◌<◌}
use native.Mathlib.Nat.{zero-add}
use native.Mathlib.Omega.{arith}
use lib.Dec.{ltb}
use lib.ListN.{length, get_or, take, length-take, length-append}
use Rattle.calculus.specs.Number.{is_node, spi}
use Rattle.calculus.proofs.Tests.{either}
use Rattle.forms.specs.Bytes.{joined}
use Rattle.forms.specs.Answer.{association_line, end_line}
use Rattle.forms.proofs.Decimal.{width_most}
use Rattle.forms.proofs.LineWidths.{association_width}
use Rattle.forms.proofs.Joined.{joined_append}
use Rattle.model.specs.Lists.{All}
use Rattle.model.specs.Row.{place_out, place_node, place_peer, spi_of}
use Rattle.model.specs.Requests.{shown_as, association_at, shown, shown_lines}
use Rattle.model.proofs.Places.{node_bounds}
use Rattle.model.proofs.Lists.{all_get, all_take}
use Rattle.model.proofs.Tables.{total_constant, only_width, entries_width}

spi_most : (a b : ℕ) → (spi a b).0 ≤ 1279
spi_most a b =
    either (λ (n : ℕ). n ≤ 1279) (is_node a && is_node b) (λ e. omega (arith, node_bounds a b e)) (λ e. omega arith)

spi_of_most : (out : Bool) (a q : ℕ) → (spi_of out a q).0 ≤ 1279
spi_of_most true a q = spi_most q a
spi_of_most false a q = spi_most a q

-- the longest: "(assoc 32 out 32 1279 65535)" and its newline
line_width : (out : Bool) (a q n : ℕ) → a ≤ 32 → q ≤ 32 → n ≤ 65535 → length (association_line (shown_as out a q n)) ≤ 29
line_width out a q n ha hq hn =
    omega (
      arith,
      association_width (shown_as out a q n),
      width_most 1 a (omega arith),
      width_most 1 q (omega arith),
      width_most 3 (spi_of out a q).0 (omega (arith, spi_of_most out a q)),
      width_most 4 n (omega arith),
    )

-- at most one line, that of a place of the table
pub place_width : (p n : ℕ) → p < 2048 → n ≤ 65535 → length (joined (map association_line (association_at p n))) ≤ 29
place_width p n i h =
    only_width association_line 29 (ltb 0 n) _ (λ e. line_width (place_out p) (place_node p) (place_peer p) n (omega arith) (omega arith) h)

pub shown_fits : (l : List ℕ) → All (λ n. n ≤ 65535) l → length (joined (shown_lines l)) ≤ 65536
unfolding shown
shown_fits l h =
    let few = length-take 2048 l in
    let some = all_take (λ n. n ≤ 65535) 2048 l h in
    let places = entries_width association_line (λ p. 29) association_at 0 (take 2048 l) 0
    (λ p i. rw (zero-add p) (place_width p (get_or (take 2048 l) p 0) (omega arith) (all_get (λ n. n ≤ 65535) (take 2048 l) p 0 some (omega arith)))) in
    rw (joined_append (map association_line (shown l)) (end_line ∷ [])) (simp length-append (omega (arith, places, few, total_constant 29 0 (length (take 2048 l)))))
