-- The reader of a list reads exactly a list's numbers. Assumes nothing.
use mathlib.Core.Path.{◌≡◌, refl, ap, ◌∙◌}
use mathlib.Core.List.{List, [], ◌∷◌, ◌++◌, append_assoc, append-nil}
use mathlib.Core.Option.{none, some}
use mathlib.Core.Bool.{true, false, ◌&&◌}
use Prim.Native.Nat.{ℕ, zero, suc, ◌+◌, ◌*◌, ◌≤◌, ◌<◌}
use native.Mathlib.Omega.{arith}
use borrow.Author.Tests.{eqb-true, eq-eqb}
use Rattle.calculus.proofs.Tests.{both}
use lib.Dec.{eqb}
use lib.ListN.{length, get_or, drop, length-append}
use lib.Seq.{drop-append_seam, drop_at}
use Rattle.forms.specs.Bytes.{bytes, decimal}
use Rattle.forms.specs.Text.{list_text}
use Rattle.forms.specs.Read.{starts, is_digit, number, listed, list_from, push, list, whole_of, fields}
use Rattle.forms.specs.Held.{firsts}
use Rattle.forms.specs.Exact.{Digits}
use Rattle.forms.proofs.Decimal.{width_some}
use Rattle.forms.proofs.Ways.{cond_way, number_way, list_way, nothing, unlisted, some_same}
use Rattle.forms.proofs.Words.{starts_sound, front_inside, front_whole}
use Rattle.forms.proofs.Numbers.{Numeral, number_sound, number_complete}

-- a space, the number, and the others
pub list_end : length (list_text []) ≡ 1
unfolding list_text
list_end = refl

pub width_list : (n : ℕ) (ns : List ℕ) → length (list_text (n ∷ ns)) ≡ 1 + (length (decimal n) + length (list_text ns))
unfolding list_text
width_list n ns = omega (arith, length-append (decimal n) (list_text ns))

-- the list ns stands at the front of l, which starts at place k, and its bracket ends at place j
record Items (most k : ℕ) (l ns : List ℕ) (j : ℕ) : Type 0 where
  pub rest : List ℕ
  pub same : l ≡ list_text ns ++ rest
  pub place : j ≡ k + length (list_text ns)
  pub digits : 0 < most → Digits most ns

module _ (most : ℕ) where
  items_none : (k : ℕ) (l ns : List ℕ) (j : ℕ) → starts (bytes ")") l ≡ true → listed [] (k + 1) ≡ listed ns j → Items most k l ns j
  unfolding list_text
  items_none k l ns j s e =
      let en : [] ≡ ns = cc in
      let ej : k + 1 ≡ j = cc in
      rw (← en, ← ej) (record { rest = drop 1 l; same = starts_sound (bytes ")") l s; place = refl; digits = λ q. tt })

  items_more : (k i n : ℕ) (l ns ms : List ℕ) (j j' : ℕ) → starts (bytes " ") l ≡ true → Numeral most (drop 1 l) (drop i (drop 1 l)) n i
      → Items most (k + 1 + i) (drop i (drop 1 l)) ms j' → listed (n ∷ ms) j' ≡ listed ns j → Items most k l ns j
  unfolding list_text
  items_more k i n l ns ms j j' s x y e =
      let en : n ∷ ms ≡ ns = cc in
      let ej : j' ≡ j = cc in
      rw (← en, ← ej) record {
        rest = y.rest;
        same = starts_sound (bytes " ") l s ∙ rw (append_assoc (decimal n) (list_text ms) y.rest, ← y.same, ← x.same);
        place = omega (arith, x.width, y.place, width_list n ms);
        digits = λ q. (rw (← x.width) at (x.digits q), y.digits q);
      }

  list_sound_at : (room k : ℕ) (l ns : List ℕ) (j : ℕ) → list most room k l ≡ listed ns j → Items most k l ns j
  unfolding list
  list_sound_at zero k l ns j e = cond_way (starts (bytes ")") l) _ _ (items_none k l ns j) (λ s. unlisted) e
  list_sound_at (suc room) k l ns j e =
      cond_way (starts (bytes ")") l) _ _ (items_none k l ns j)
      (λ t. cond_way (starts (bytes " ") l) _ _
      (λ s. number_way (list_from (list most room) (k + 1) (drop 1 l)) (number most (drop 1 l)) unlisted
      (λ n i f. list_way (push n) (list most room (k + 1 + i) (drop i (drop 1 l))) unlisted
      (λ ms j' g. items_more k i n l ns ms j j' s (number_sound most (drop 1 l) n i f)
      (list_sound_at room (k + 1 + i) (drop i (drop 1 l)) ms j' g))))
      (λ s. unlisted))
      e

pub list_inside : (most room : ℕ) (l ns : List ℕ) (j : ℕ) → list most room 0 l ≡ listed ns j → j ≤ length l
list_inside most room l ns j e =
    let x = list_sound_at most room 0 l ns j e in
    omega (arith, x.place, front_inside (list_text ns) l x.rest x.same)

-- a list at the front of l, and what follows it
pub list_sound : (most room : ℕ) (l ns : List ℕ) (j : ℕ) → list most room 0 l ≡ listed ns j
    → (l ≡ list_text ns ++ drop j l) × (0 < most → Digits most ns)
list_sound most room l ns j e =
    let x = list_sound_at most room 0 l ns j e in
    let d : drop j l ≡ x.rest = ap (drop j) x.same ∙ drop_at (list_text ns) x.rest j (omega (arith, x.place)) in
    (rw d x.same, x.digits)

-- a list of up to three numbers, by its numbers
pub firsts_all : (ns : List ℕ) (n : ℕ) → length ns ≡ n → n ≤ 3 → firsts n ns ≡ ns
firsts_all [] n e h = rw (← e)
firsts_all (a ∷ []) n e h = rw (← e)
firsts_all (a ∷ b ∷ []) n e h = rw (← e)
firsts_all (a ∷ b ∷ c ∷ []) n e h = rw (← e)
firsts_all (a ∷ b ∷ c ∷ d ∷ ns) n e h = absurd (omega arith)

-- n numbers to the end of a line
pub record Whole (most n : ℕ) (l ns : List ℕ) : Type 0 where
  pub same : l ≡ list_text ns
  pub count : length ns ≡ n
  pub digits : 0 < most → Digits most ns

pub fields_sound : (most n : ℕ) (l ns : List ℕ) → fields most n l ≡ some ns → Whole most n l ns
unfolding fields
fields_sound most n l ns =
    list_way (whole_of n l) (list most 3 0 l) nothing
    (λ ms j p. let x = list_sound_at most 3 0 l ms j p in
    cond_way (eqb (length ms) n && eqb j (length l)) (some ms) none
    (λ q. let h = both (eqb (length ms) n) (eqb j (length l)) q in
    some_same (Whole most n l)
    (record {
      same = front_whole (list_text ms) l x.rest x.same (omega (arith, x.place, eqb-true j (length l) h.1));
      count = eqb-true (length ms) n h.0;
      digits = x.digits;
    }))
    (λ q. nothing))

pub digits_join : (most : ℕ) (ns ms : List ℕ) → Digits most ns → Digits most ms → Digits most (ns ++ ms)
digits_join most [] ms d e = e
digits_join most (n ∷ ns) ms d e = (d.0, digits_join most ns ms d.1 e)

-- ---- what is written is read

pub digits_split : (most : ℕ) (ns ms : List ℕ) → Digits most (ns ++ ms) → Digits most ns × Digits most ms
digits_split most [] ms d = (tt, d)
digits_split most (n ∷ ns) ms d =
    let h = digits_split most ns ms d.1 in
    ((d.0, h.0), h.1)

-- no digit follows a number of a list
list_ended : (ns r : List ℕ) → is_digit (get_or (list_text ns ++ r) 0 0) ≡ false
unfolding list_text
list_ended [] r = refl
list_ended (n ∷ ns) r = refl

list_complete_at : (most room k : ℕ) (ns r : List ℕ) → length ns ≤ room → Digits most ns
    → list most room k (list_text ns ++ r) ≡ listed ns (k + length (list_text ns))
unfolding list list_text starts
list_complete_at most zero k [] r h d = refl
list_complete_at most zero k (n ∷ ns) r h d = absurd (omega arith)
list_complete_at most (suc room) k [] r h d = refl
list_complete_at most (suc room) k (n ∷ ns) r h d =
    let ih = list_complete_at most room (k + 1 + length (decimal n)) ns r (omega arith) d.1 in
    let w : k + 1 + length (decimal n) + length (list_text ns) ≡ k + length (list_text (n ∷ ns)) = omega (arith, width_list n ns) in
    rw (
      append_assoc (decimal n) (list_text ns) r,
      number_complete most n (list_text ns ++ r) d.0 (list_ended ns r),
      drop-append_seam,
      ih,
      w,
    )

pub list_complete : (most room : ℕ) (ns r : List ℕ) → length ns ≤ room → Digits most ns
    → list most room 0 (list_text ns ++ r) ≡ listed ns (length (list_text ns))
list_complete most room ns r h d =
    let z : 0 + length (list_text ns) ≡ length (list_text ns) = omega arith in
    rw z at (list_complete_at most room 0 ns r h d)

pub fields_complete : (most n : ℕ) (ns : List ℕ) → length ns ≡ n → n ≤ 3 → Digits most ns → fields most n (list_text ns) ≡ some ns
unfolding fields
fields_complete most n ns e h d =
    rw (rw append-nil at (list_complete most 3 ns [] (omega arith) d), eq-eqb (length ns) n e, eq-eqb (length (list_text ns)) _ refl)

-- each number has its space and a digit, and the bracket stands behind them
pub list_count : (ns : List ℕ) → length ns * 2 < length (list_text ns)
unfolding list_text
list_count [] = omega arith
list_count (n ∷ ns) = omega (arith, width_list n ns, width_some n, list_count ns)

-- no number is longer than its list
pub list_digits : (most : ℕ) (ns : List ℕ) → length (list_text ns) ≤ most → Digits most ns
list_digits most [] h = tt
list_digits most (n ∷ ns) h =
    let w = width_list n ns in
    (omega arith, list_digits most ns (omega arith))
