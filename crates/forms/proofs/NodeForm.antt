-- The reader of a node's form reads exactly a node's text. Assumes nothing.
use mathlib.Core.Path.{◌≡◌, refl}
use mathlib.Core.List.{List, ◌∷◌, ◌++◌}
use mathlib.Core.Option.{none, some}
use mathlib.Core.Bool.{false}
use Prim.Native.Nat.{ℕ, ◌*◌, ◌≤◌, ◌<◌}
use native.Mathlib.Omega.{arith}
use lib.ListN.{length, get_or, drop, length-append}
use lib.Seq.{drop-append_seam}
use Rattle.calculus.specs.declared.network.Kind.{Kind}
use Rattle.calculus.specs.declared.network.Kind.TheVariants.{Host, Gateway}
use Rattle.forms.specs.Bytes.{bytes, decimal}
use Rattle.forms.specs.Text.{Form, node, list_text, kind_text, text, numbers}
use Rattle.forms.specs.Read.{starts, is_digit, number, list, is_text, needs_of, has_of, has_at, kind_at, node_of, node_at}
use Rattle.forms.specs.Exact.{Digits}
use Rattle.forms.proofs.Ways.{cond_way, number_way, list_way, nothing, some_same}
use Rattle.forms.proofs.Words.{starts_way, is_text_sound}
use Rattle.forms.proofs.Numbers.{number_sound, number_complete}
use Rattle.forms.proofs.Lists.{list_sound, digits_join, digits_split, list_complete, list_count}

-- l is the text of f. One digit is read whatever `most` is.
pub record Says (most : ℕ) (l : List ℕ) (f : Form) : Type 0 where
  pub same : l ≡ text f
  pub digits : 0 < most → Digits most (numbers f)

-- a node's text, with l from behind its `(has`
abbrev node_text : ℕ → Kind → List ℕ → List ℕ
node_text a k l = bytes "(node " ++ (decimal a ++ (kind_text k ++ (bytes " (has" ++ l)))

module _ (most room : ℕ) (f : Form) where
  needs_sound : (a : ℕ) (k : Kind) (has l : List ℕ) → (0 < most → Digits most (a ∷ has)) → needs_of a k has l (list most room 0 l) ≡ some f
      → Says most (node_text a k (list_text has ++ (bytes " (needs" ++ l))) f
  unfolding text
  needs_sound a k has l d =
      list_way (needs_of a k has l) (list most room 0 l) nothing
      (λ needs j p. let x = list_sound most room l needs j p in
      cond_way (is_text (bytes ")") (drop j l)) _ none
      (λ q. some_same (Says most _) record {
        same = rw (x.0, is_text_sound (bytes ")") (drop j l) q);
        digits = λ h. digits_join most (a ∷ has) needs (d h) (x.1 h);
      })
      (λ q. nothing))

  has_sound : (a : ℕ) (k : Kind) (l : List ℕ) → (0 < most → length (decimal a) ≤ most) → has_at most room a k l ≡ some f
      → Says most (node_text a k l) f
  unfolding has_at
  has_sound a k l d =
      list_way (has_of most room a k l) (list most room 0 l) nothing
      (λ has j p e. let x = list_sound most room l has j p in
      rw x.0 (starts_way (λ m. Says most (node_text a k (list_text has ++ m)) f) (bytes " (needs") (drop j l) _ none
      (needs_sound a k has (drop 7 (drop j l)) (λ h. (d h, x.1 h))) nothing e))

  kind_sound : (a : ℕ) (l : List ℕ) → (0 < most → length (decimal a) ≤ most) → kind_at most room a l ≡ some f
      → Says most (bytes "(node " ++ (decimal a ++ l)) f
  unfolding kind_at
  kind_sound a l d =
      let P : List ℕ → Type 0 = λ m. Says most (bytes "(node " ++ (decimal a ++ m)) f in
      starts_way P (bytes " host (has") l _ _ (has_sound a Host (drop 10 l) d)
      (starts_way P (bytes " gate (has") l _ none (has_sound a Gateway (drop 10 l) d) nothing)

  pub node_sound : (l : List ℕ) → node_at most room l ≡ some f → Says most (bytes "(node " ++ l) f
  unfolding node_at
  node_sound l =
      number_way (node_of most room l) (number most l) nothing
      (λ a j p e. let x = number_sound most l a j p in rw x.same (kind_sound a (drop j l) (rw (← x.width) at x.digits) e))

-- ---- what is written is read

-- no digit follows a node's number
kind_ended : (k : Kind) (r : List ℕ) → is_digit (get_or (kind_text k ++ r) 0 0) ≡ false
kind_ended Host r = refl
kind_ended Gateway r = refl

kind_complete : (most room a : ℕ) (k : Kind) (r : List ℕ) → kind_at most room a (kind_text k ++ (bytes " (has" ++ r)) ≡ has_at most room a k r
unfolding kind_at starts
kind_complete most room a Host r = refl
kind_complete most room a Gateway r = refl

module _ (most room a : ℕ) (k : Kind) (has needs : List ℕ) where
  has_complete : length has ≤ room → length needs ≤ room → Digits most has → Digits most needs
      → has_at most room a k (list_text has ++ (bytes " (needs" ++ (list_text needs ++ bytes ")"))) ≡ some (node a k has needs)
  unfolding has_at starts
  has_complete h i d e =
      rw (
        list_complete most room has (bytes " (needs" ++ (list_text needs ++ bytes ")")) h d,
        drop-append_seam,
        list_complete most room needs (bytes ")") i e,
        drop-append_seam,
      )

  pub node_complete : length (text (node a k has needs)) ≤ room * 2 → Digits most (numbers (node a k has needs))
      → node_at most room (drop 6 (text (node a k has needs))) ≡ some (node a k has needs)
  unfolding text node_at
  node_complete h d =
      let r : List ℕ = list_text has ++ (bytes " (needs" ++ (list_text needs ++ bytes ")")) in
      let n = number_complete most a (kind_text k ++ (bytes " (has" ++ r)) d.0 (kind_ended k (bytes " (has" ++ r)) in
      let e = digits_split most has needs d.1 in
      let w = simp length-append at h in
      rw (n, drop-append_seam, kind_complete most room a k r)
      (has_complete (omega (arith, list_count has)) (omega (arith, list_count needs)) e.0 e.1)
