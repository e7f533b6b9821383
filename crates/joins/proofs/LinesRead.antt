-- The lines of a network's text, read one after the other. Assumes nothing.
use mathlib.Core.Path.{◌≡◌, refl, sym, ap, ◌∙◌}
use mathlib.Core.Bool.{Bool, true, false}
use mathlib.Core.List.{List, [], ◌∷◌}
use Prim.Native.Nat.{ℕ, suc, ◌+◌, ◌-◌, ◌≤◌, ◌<◌}
use native.Mathlib.Numerals.{add-one}
use native.Mathlib.Omega.{arith}
use lib.Dec.{ltb}
use borrow.Author.Tests.{ltb-true, ltb-false, lt-ltb}
use lib.ListN.{length, get_or, drop, length-append, length-drop, drop_of_length-le}
use lib.Seq.{drop-cons, drop-drop, drop-append_seam, take-append_seam}
use Rattle.calculus.proofs.Tests.{Way, is, isnt, way, never}
use Rattle.calculus.specs.declared.network.Network.{Network}
use Rattle.forms.specs.Bytes.{joined}
use Rattle.forms.specs.Line.{line_length}
use Rattle.model.specs.GivenBack.{Consistent}
use Rattle.model.specs.Join.{place_lines, is_there}
use Rattle.model.specs.Union.{IsTextOf}
use Rattle.model.proofs.Lists.{all_get}
use Rattle.model.proofs.PlaceLines.{places_count, text_places, node_there, route_there, IsLine, places_lines}
use Rattle.joins.specs.Merge.{has_entry, line_part}

-- the text t is read up to place i, and has these lines left
pub record Unread (t : List ℕ) (i : ℕ) (left : List (List ℕ)) : Type 0 where
  pub inside : i ≤ length t
  pub rest : drop i t ≡ joined left

pub unread_all : {t : List ℕ} {left : List (List ℕ)} → t ≡ joined left → Unread t 0 left
unread_all e = record { inside = omega arith; rest = e }

no_line : (x : List ℕ) → is_there x ≡ false → x ≡ []
no_line [] e = refl
no_line (c ∷ x) e = absurd (omega (arith, ltb-false 0 (suc (length x)) e))

module _ {t : List ℕ} {i : ℕ} {x : List ℕ} {left : List (List ℕ)} (r : Unread t i (x ∷ left)) where
  sizes : length t - i ≡ length x + length (joined left)
  sizes = sym (length-drop i t) ∙ ap length r.rest ∙ length-append x (joined left)

  -- behind the line the others are left
  pub unread_less : Unread t (i + length x) left
  unread_less =
      record {
        inside = omega (arith, r.inside, sizes);
        rest = sym (drop-drop (length x) i t) ∙ ap (drop (length x)) r.rest ∙ drop-append_seam x (joined left);
      }

  line_there : line_length (drop i t) + 1 ≡ length x → line_part t i true ≡ x
  line_there e =
      let size : i + line_length (drop i t) + 1 - i ≡ length x = omega arith in
      rw (lt-ltb i (length t) (omega (arith, sizes)), lt-ltb (i + line_length (drop i t)) (length t) (omega (arith, sizes)), size, r.rest)
      (take-append_seam x (joined left))

  -- what is read there is the line, or nothing where it is not there
  line_is : IsLine x → line_part t i (is_there x) ≡ x
  line_is w = go (way (is_there x))
    where
      go : Way (is_there x) → line_part t i (is_there x) ≡ x
      go (is e) = rw e (line_there (ap (λ (l : List ℕ). line_length l + 1) r.rest ∙ w e (joined left)))
      go (isnt e) = rw (e, no_line x e)

-- ---- a network's text

-- the line of place k
abbrev place_line : Network → ℕ → List ℕ
place_line n k = get_or (place_lines n) k []

-- `has_entry` tells where it is there
has_entry_lem : (n : Network) (k : ℕ) → Consistent n → k < 1088 → has_entry n k ≡ is_there (place_line n k)
has_entry_lem n k h w = go (way (ltb k 32))
  where
    go : Way (ltb k 32) → has_entry n k ≡ is_there (place_line n k)
    go (is e) = rw e (sym (node_there n k h (ltb-true k 32 e)))
    go (isnt e) =
        let low = ltb-false k 32 e in
        let place : k ≡ 32 + (k - 32) = omega arith in
        rw e (sym (ap (λ (i : ℕ). is_there (place_line n i)) place ∙ route_there n (k - 32) h (omega arith)))

-- its lines from place k on
abbrev pub lines_left : Network → ℕ → List (List ℕ)
lines_left n k = drop k (place_lines n)

-- of the text t of n, read up to place i, x is the line of place k
pub record LineRead (n : Network) (t : List ℕ) (k i : ℕ) (x : List ℕ) : Type 0 where
  pub line : lines_left n k ≡ x ∷ lines_left n (k + 1)
  pub more : Unread t (i + length x) (lines_left n (k + 1))

module _ {n : Network} {t : List ℕ} (g : IsTextOf t n) where
  pub text_unread : Unread t 0 (lines_left n 0)
  text_unread = unread_all (g.same ∙ text_places n)

  lines_next : {k : ℕ} → k < 1088 → lines_left n k ≡ place_line n k ∷ lines_left n (k + 1)
  lines_next {k} h = rw add-one (drop-cons (place_lines n) k [] (omega (arith, places_count n g.consistent)))

  pub lines_none : {k : ℕ} → 1088 ≤ k → lines_left n k ≡ []
  lines_none {k} h = drop_of_length-le (place_lines n) {i = k} (omega (arith, places_count n g.consistent))

  -- what `line_part` answers, told by `has_entry`, is the line of place k
  pub line_read : {k i : ℕ} {there : Bool} {x : List ℕ} → Unread t i (lines_left n k) → k < 1088 → there ≡ has_entry n k → x ≡ line_part t i there
      → LineRead n t k i x
  line_read {k} {i} {there} {x} r h e f =
      let w : Unread t i (place_line n k ∷ lines_left n (k + 1)) = rw (lines_next h) at r in
      let is : x ≡ place_line n k = f ∙ rw (e ∙ has_entry_lem n k g.consistent h) (line_is w (all_get IsLine (place_lines n) k [] (places_lines n) (λ z. never z))) in
      rw is record { line = lines_next h; more = unread_less w }
