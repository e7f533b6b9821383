-- The lines of a table's entries. Assumes nothing.
use mathlib.Core.Path.{◌≡◌, refl, ap, ◌∙◌}
use mathlib.Core.List.{List, [], ◌∷◌, ◌++◌, map}
use Prim.Native.Nat.{ℕ, suc, ◌+◌, ◌*◌, ◌≤◌, ◌<◌}
use native.Mathlib.Nat.{mul-suc, add-zero}
use native.Mathlib.Numerals.{add-one}
use native.Mathlib.Omega.{arith}
use lib.ListN.{length, get_or, take}
use Rattle.calculus.specs.Table.{entries_from}
use Rattle.calculus.proofs.Table.{entries_next}
use Rattle.forms.specs.Bytes.{joined}
use Rattle.forms.proofs.Joined.{lines_append}
use Rattle.answers.specs.declared.put.Output.{Output}
use Rattle.answers.specs.Put.{Adds}
use Rattle.answers.proofs.Sets.{adds_none, adds_append}

-- the texts of the first i entries of the table t are added, of each at most w bytes
pub record Firsts {A : Type 0} (text : ℕ → A → List ℕ) (w : ℕ) (t : List A) (s : Output) (i : ℕ) (u : Output) : Type 0 where
  pub added : Adds s (entries_from text 0 (take i t)) u
  pub few : u.at ≤ s.at + w * i

module _ {A : Type 0} {text : ℕ → A → List ℕ} {w : ℕ} {t : List A} {s : Output} where
  pub firsts_none : Firsts text w t s 0 s
  unfolding entries_from
  firsts_none = record { added = adds_none; few = omega arith }

  -- one more
  pub firsts_more : {i : ℕ} {u v : Output} (x : A) → x ≡ get_or t i x → i < length t → Firsts text w t s i u → Adds u (text i x) v
      → v.at ≤ u.at + w
      → Firsts text w t s (i + 1) v
  firsts_more {i} x e h f added few =
      let z : 0 + i ≡ i = omega arith in
      record {
        added = rw (add-one, entries_next text 0 t i x h, z, ← e) (adds_append f.added added);
        few = rw (add-one, mul-suc) (omega (arith, f.few, few));
      }

-- the lines of a table's entries are what each of them has, one after the other
pub lines_entries : {A B : Type 0} (line : B → List ℕ) (f : ℕ → A → List B) (k : ℕ) (t : List A)
    → joined (map line (entries_from f k t)) ≡ entries_from (λ p x. joined (map line (f p x))) k t
unfolding entries_from
lines_entries line f k [] = refl
lines_entries line f k (x ∷ t) =
    lines_append line (f k x) (entries_from f (k + 1) t)
    ∙ ap (λ (l : List ℕ). joined (map line (f k x)) ++ l) (lines_entries line f (k + 1) t)

-- entries numbered from k + j on are those from j on, with k added to each number
pub entries_later : {A B : Type 0} (f : ℕ → A → List B) (k j : ℕ) (t : List A) → entries_from f (k + j) t ≡ entries_from (λ p. f (k + p)) j t
unfolding entries_from
entries_later f k j [] = refl
entries_later {B = B} f k j (x ∷ t) =
    let e : k + j + 1 ≡ k + (j + 1) = omega arith in
    ap (λ (l : List B). f (k + j) x ++ l) (rw e (entries_later f k (j + 1) t))
