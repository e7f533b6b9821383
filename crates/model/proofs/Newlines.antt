-- Lines that end in a newline: the first of a text, and the one that starts at a place of it. For `Texts` and `Unfinished`. Assumes nothing.
use mathlib.Core.Path.{◌≡◌, refl, ap}
use mathlib.Core.Bool.{Bool, true, false, cond}
use mathlib.Core.List.{List, [], ◌∷◌, ◌++◌}
use Rattle.std.specs.Prelude.{Some, None}
use Prim.Native.Nat.{ℕ, suc, ◌+◌, ◌≤◌, ◌<◌}
use native.Mathlib.Omega.{arith}
use borrow.Author.Tests.{eq-eqb, ne_eqb, ltb-true, ltb-false}
use lib.Dec.{ltb, eqb}
use lib.ListN.{length, take, drop, length-drop}
use Rattle.calculus.proofs.Tests.{Way, is, isnt, way, clash}
use Rattle.forms.specs.Line.{line_length, line_to, next_line, with_first, lines}
use Rattle.model.specs.Batch.{is_last}
use Rattle.model.specs.Texts.{NoNewline}

-- ---- a line that ends in a newline

-- it is the first line, whatever comes behind the text
pub lines_ended : (l more : List ℕ) → line_length l < length l
    → lines (l ++ more) ≡ take (line_length l) l ∷ lines (drop (suc (line_length l)) l ++ more)
unfolding lines line_length
lines_ended [] more h = absurd (omega arith)
lines_ended (c ∷ l) more h = go (eqb c 10) (lines_ended l more) h
  where
    go : (b : Bool)
        → (line_length l < length l → lines (l ++ more) ≡ take (line_length l) l ∷ lines (drop (suc (line_length l)) l ++ more))
        → cond b 0 (suc (line_length l)) < suc (length l)
        → cond b ([] ∷ lines (l ++ more)) (with_first c (lines (l ++ more)))
        ≡ take (cond b 0 (suc (line_length l))) (c ∷ l) ∷ lines (drop (suc (cond b 0 (suc (line_length l)))) (c ∷ l) ++ more)
    go true ih h = refl
    go false ih h = ap (with_first c) (ih (omega arith))

pub line_length_most : (l : List ℕ) → line_length l ≤ length l
unfolding line_length
line_length_most [] = omega arith
line_length_most (c ∷ l) = go (eqb c 10) (line_length_most l)
  where
    go : (b : Bool) → line_length l ≤ length l → cond b 0 (suc (line_length l)) ≤ suc (length l)
    go true h = omega arith
    go false h = omega arith

-- ---- where the next line stands

-- a line with no newline behind it is the last one, and one with a newline is not
tail_last : (stop : ℕ) → is_last (Some (record { stop = stop; next = stop })) ≡ true
tail_last stop = eq-eqb stop stop refl

ended_not_last : (stop : ℕ) → is_last (Some (record { stop = stop; next = stop + 1 })) ≡ false
ended_not_last stop = ne_eqb stop (stop + 1) (λ e. omega arith)

-- the line at `from` ends in a newline at from + size
pub record Ended (text : List ℕ) (from : ℕ) : Type 0 where
  pub newline : line_length (drop from text) < length (drop from text)
  pub found : next_line text from
      ≡ Some (record { stop = from + line_length (drop from text); next = from + line_length (drop from text) + 1 })

pub line_ended : (text : List ℕ) (from : ℕ) → is_last (next_line text from) ≡ false → Ended text from
line_ended text from = go (line_length (drop from text)) refl (way (ltb from (length text)))
  where
    go : (k : ℕ) → line_length (drop from text) ≡ k → Way (ltb from (length text)) → is_last (cond (ltb from (length text)) (line_to text (from + k)) None) ≡ false → Ended text from
    go k e (isnt f) q = clash (let z : true ≡ false = rw f at q in cc)
    go k e (is f) q = found (way (ltb (from + k) (length text)))
      where
        found : Way (ltb (from + k) (length text)) → Ended text from
        found (is g) =
            record {
              newline = omega (arith, length-drop from text, ltb-true (from + k) (length text) g, e);
              found = rw (e, f, g);
            }
        found (isnt g) =
            let z : is_last (Some (record { stop = from + k; next = from + k })) ≡ false = rw (f, g) at q in
            clash (cc (tail_last (from + k)))

pub line_last : (text : List ℕ) (from : ℕ) → is_last (next_line text from) ≡ true → NoNewline (drop from text)
line_last text from = go (line_length (drop from text)) refl (way (ltb from (length text)))
  where
    go : (k : ℕ) → line_length (drop from text) ≡ k → Way (ltb from (length text)) → is_last (cond (ltb from (length text)) (line_to text (from + k)) None) ≡ true → NoNewline (drop from text)
    go k e (isnt f) q = omega (arith, length-drop from text, line_length_most (drop from text), ltb-false from (length text) f)
    go k e (is f) q = found (way (ltb (from + k) (length text)))
      where
        found : Way (ltb (from + k) (length text)) → NoNewline (drop from text)
        found (isnt g) = omega (arith, length-drop from text, line_length_most (drop from text), ltb-false (from + k) (length text) g, e)
        found (is g) =
            let z : is_last (Some (record { stop = from + k; next = from + k + 1 })) ≡ true = rw (f, g) at q in
            clash (cc (ended_not_last (from + k)))
