-- What the reader's private functions hold is what the definitions say. Assumes nothing.
use mathlib.Core.Path.{◌≡◌, refl, sym, ap}
use mathlib.Core.Bool.{Bool, cond, ◌&&◌}
use mathlib.Core.List.{List}
use mathlib.Core.Option.{Option, none, some}
use Prim.Native.Nat.{ℕ, ◌≤◌}
use native.Mathlib.Omega.{arith}
use borrow.Author.Tests.{eqb-true, eq-eqb, ne_eqb}
use lib.Dec.{eqb}
use lib.ListN.{length, take}
use lib.Seq.{length-take-le}
use Rattle.std.specs.Prelude as std
use Rattle.std.specs.Prelude.{Some, None, Ok}
use Rattle.calculus.specs.declared.request.Request.{Request}
use Rattle.calculus.proofs.Tests.{Way, is, isnt, way}
use Rattle.forms.specs.declared.list.ListRead.{ListRead}
use Rattle.forms.specs.Text.{Form}
use Rattle.forms.specs.Read.{list, fields, form_with}
use Rattle.forms.specs.Request.{reading, asked}
use Rattle.forms.specs.Held.{Filled, list_in, firsts, bare_asked, set_of, gathered}
use Rattle.forms.proofs.Lists.{firsts_all}

-- ---- the numbers of a form

-- three places hold a list of up to three numbers
firsts_take : (n : ℕ) (v : List ℕ) → length v ≡ 3 → firsts n v ≡ take n v
firsts_take n v h = ap (take n) (firsts_all v 3 h (omega arith))

module _ {l before after : List ℕ} {r : std.Option ListRead} (f : Filled l before r after) where
  -- what is known of the list, by what was read
  filled_list : {size : ℕ} {s : std.Option ListRead} → length before ≡ size → r ≡ s → list 10 size 0 l ≡ list_in after s
  filled_list h e = rw (← h, ← e) (sym f.same)

  module _ {x : ListRead} (e : r ≡ Some x) where
    pub filled_few : x.count ≤ length before
    filled_few = rw e at f.few

    pub fields_found : (n : ℕ) → length before ≡ 3 → length after ≡ 3
        → cond (eqb x.count n && eqb x.used (length l)) (some (firsts n after)) none ≡ fields 10 n l
    unfolding fields
    fields_found n h g =
        let w : length (take x.count after) ≡ x.count = length-take-le x.count after (rw (h, ← g) at filled_few) in
        rw (filled_list h e, w, firsts_take n after g) (go (way (eqb x.count n)) (eqb x.used (length l)))
      where
        go : Way (eqb x.count n) → (b : Bool) → cond (eqb x.count n && b) (some (take n after)) none ≡ cond (eqb x.count n && b) (some (take x.count after)) none
        go (is f) b = rw (eqb-true x.count n f)
        go (isnt f) b = rw f

    module _ (n : ℕ) (h : length before ≡ 3) (g : length after ≡ 3) where
      pub fields_all : x.count ≡ n → x.used ≡ length l → some (firsts n after) ≡ fields 10 n l
      fields_all p q = rw (eq-eqb x.count n p, eq-eqb x.used (length l) q) at (fields_found n h g)

      -- another count of them, or something behind them
      pub fields_others : (x.count ≡ n → ⊥) → none ≡ fields 10 n l
      fields_others p = rw (ne_eqb x.count n p) at (fields_found n h g)

      pub fields_more : x.count ≡ n → (x.used ≡ length l → ⊥) → none ≡ fields 10 n l
      fields_more p q = rw (eq-eqb x.count n p, ne_eqb x.used (length l) q) at (fields_found n h g)

    pub gathered_list : {t : std.Option (List Bool)} → length before ≡ 200 → t ≡ set_of (take x.count after)
        → Some (record { set = t; used = x.used }) ≡ gathered (list 10 200 0 l)
    gathered_list h q = rw (filled_list h e, q)

  pub fields_broken : (n : ℕ) → length before ≡ 3 → r ≡ None → none ≡ fields 10 n l
  unfolding fields
  fields_broken n h e = rw (filled_list h e)

  pub gathered_broken : length before ≡ 200 → r ≡ None → None ≡ gathered (list 10 200 0 l)
  gathered_broken h e = rw (filled_list h e)

-- ---- a form of no numbers

pub bare_form : (form : List ℕ → Form) (q : Request) → ((ns : List ℕ) → reading (form ns) ≡ Ok q) → (o : Option (List ℕ))
    → bare_asked q o ≡ asked (form_with form o)
bare_form form q h (some ns) = sym (h ns)
bare_form form q h none = refl
