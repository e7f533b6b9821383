-- Input is split into its lines. Assumes nothing.
use mathlib.Core.Path.{◌≡◌, refl, ap, ◌∙◌}
use mathlib.Core.Bool.{Bool, true, false, cond}
use mathlib.Core.List.{List, [], ◌∷◌}
use Rattle.std.specs.Prelude.{Some, None, position, unwrap_or}
use Rattle.std.specs.List.{position_or_len}
use Rattle.std.proofs.lemmas.List.Recursion.{is_position_or_len}
use Prim.Native.Nat.{ℕ, suc, ◌+◌, ◌-◌, ◌≤◌, ◌<◌}
use native.Mathlib.Omega.{arith}
use native.Mathlib.Numerals.{add-one}
use borrow.Author.Tests.{ltb-true, ltb-false}
use lib.Dec.{ltb, eqb}
use lib.ListN.{length, take, drop, length-drop, drop_of_length-le}
use lib.Seq.{drop-drop}
use Rattle.calculus.proofs.Tests.{Way, is, isnt, way, clash}
use Rattle.forms.specs.declared.line.Line.{Line}
use Rattle.forms.specs.Line.{line_length, line_to, next_line, with_first, lines, lines_by, SplitsLines}

-- ---- the end of a line

pub line_length_inside : (l : List ℕ) → line_length l ≤ length l
unfolding line_length
line_length_inside [] = omega arith
line_length_inside (c ∷ l) = go (eqb c 10) (line_length_inside l)
  where
    go : (b : Bool) → line_length l ≤ length l → cond b 0 (suc (line_length l)) ≤ suc (length l)
    go true h = omega arith
    go false h = omega arith

-- a line ends at its first newline, or at the end of the input
pub first_newline : (l : List ℕ) → unwrap_or (position (λ c. eqb c 10) l) (length l) ≡ line_length l
unfolding line_length
first_newline l = go (position_or_len (λ c. eqb c 10) l) (is_position_or_len line_length (λ c. eqb c 10) refl (λ c r. let n : 1 + line_length r ≡ suc (line_length r) = omega arith in rw n refl) l)
  where
    go : (k : ℕ) → line_length l ≡ k → unwrap_or (cond (ltb k (length l)) (Some k) None) (length l) ≡ line_length l
    go k e = found (way (ltb k (length l)))
      where
        found : Way (ltb k (length l)) → unwrap_or (cond (ltb k (length l)) (Some k) None) (length l) ≡ line_length l
        found (is f) = rw (f, e)
        found (isnt f) = rw f (omega (arith, ltb-false k (length l) f, line_length_inside l))

-- ---- where a line stands

-- a line from `from` to `stop` stands inside the input, and the next one starts behind it
pub record Inside (l : List ℕ) (from stop next : ℕ) : Type 0 where
  pub starts : from ≤ stop
  pub ends : stop ≤ next
  pub more : from < next
  pub within : next ≤ length l

pub line_inside : (l : List ℕ) (from : ℕ) (x : Line) → next_line l from ≡ Some x → Inside l from x.stop x.next
line_inside l from x = go (way (ltb from (length l))) (line_length (drop from l)) (line_length_inside (drop from l))
  where
    go : Way (ltb from (length l)) → (k : ℕ) → k ≤ length (drop from l)
        → cond (ltb from (length l)) (line_to l (from + k)) None ≡ Some x → Inside l from x.stop x.next
    go (isnt e) k h q =
        let q' : None ≡ Some x = rw e at q in
        clash cc
    go (is e) k h q =
        let q' : line_to l (from + k) ≡ Some x = rw e at q in
        let same : record { stop = from + k; next = cond (ltb (from + k) (length l)) (from + k + 1) (from + k) } ≡ x = cc in
        rw (← same) (found (way (ltb (from + k) (length l))))
      where
        size : length (drop from l) ≡ length l - from
        size = length-drop from l

        found : Way (ltb (from + k) (length l)) → Inside l from (from + k) (cond (ltb (from + k) (length l)) (from + k + 1) (from + k))
        found (is f) =
            let a = ltb-true (from + k) (length l) f in
            rw f (record { starts = omega arith; ends = omega arith; more = omega arith; within = omega arith })
        found (isnt f) =
            let a = ltb-false (from + k) (length l) f in
            let b = ltb-true from (length l) e in
            rw f (record { starts = omega arith; ends = omega arith; more = omega arith; within = omega (arith, size) })

-- ---- the first line, and the others

lines_first : (c : ℕ) (l : List ℕ) → lines (c ∷ l) ≡ take (line_length (c ∷ l)) (c ∷ l) ∷ lines (drop (suc (line_length (c ∷ l))) (c ∷ l))
unfolding lines line_length
lines_first c [] = go (eqb c 10)
  where
    go : (b : Bool) → cond b ([] ∷ []) ((c ∷ []) ∷ []) ≡ take (cond b 0 1) (c ∷ []) ∷ lines (drop (suc (cond b 0 1)) (c ∷ []))
    go true = refl
    go false = refl
lines_first c (d ∷ l) = go (eqb c 10) (lines_first d l)
  where
    go : (b : Bool) → lines (d ∷ l) ≡ take (line_length (d ∷ l)) (d ∷ l) ∷ lines (drop (suc (line_length (d ∷ l))) (d ∷ l))
        → cond b ([] ∷ lines (d ∷ l)) (with_first c (lines (d ∷ l)))
        ≡ take (cond b 0 (suc (line_length (d ∷ l)))) (c ∷ d ∷ l) ∷ lines (drop (suc (cond b 0 (suc (line_length (d ∷ l))))) (c ∷ d ∷ l))
    go true ih = refl
    go false ih = ap (with_first c) ih

lines_some : (l : List ℕ) → 0 < length l → lines l ≡ take (line_length l) l ∷ lines (drop (suc (line_length l)) l)
lines_some [] h = absurd (omega arith)
lines_some (c ∷ l) h = lines_first c l

-- behind a line that ends before `stop`, its newline is passed over, and at the end of input nothing is
behind_line : (l : List ℕ) (stop : ℕ) → drop (suc stop) l ≡ drop (cond (ltb stop (length l)) (stop + 1) stop) l
behind_line l stop = go (way (ltb stop (length l)))
  where
    go : Way (ltb stop (length l)) → drop (suc stop) l ≡ drop (cond (ltb stop (length l)) (stop + 1) stop) l
    go (is e) = rw (e, add-one)
    go (isnt e) =
        let h = ltb-false stop (length l) e in
        rw (e, drop_of_length-le l {i = stop} h, drop_of_length-le l {i = suc stop} (omega arith))

lines_split : (l : List ℕ) (from : ℕ) → lines (drop from l) ≡ lines_by l from (next_line l from)
unfolding lines
lines_split l from = go (way (ltb from (length l))) (line_length (drop from l)) (lines_some (drop from l))
  where
    go : Way (ltb from (length l)) → (k : ℕ)
        → (0 < length (drop from l) → lines (drop from l) ≡ take k (drop from l) ∷ lines (drop (suc k) (drop from l)))
        → lines (drop from l) ≡ lines_by l from (cond (ltb from (length l)) (line_to l (from + k)) None)
    go (isnt e) k h = rw (e, drop_of_length-le l (ltb-false from (length l) e))
    go (is e) k h =
        let d : from + k - from ≡ k = omega arith in
        let s : from + suc k ≡ suc (from + k) = omega arith in
        let q = h (omega (arith, length-drop from l, ltb-true from (length l) e)) in
        q ∙ rw (e, d, drop-drop (suc k) from l, s, behind_line l (from + k))

pub splits_lines : SplitsLines
splits_lines = record { split = lines_split }
