-- What reading a list part by part keeps. Assumes nothing.
use mathlib.Core.Path.{◌≡◌, refl, sym, ap, ◌∙◌}
use mathlib.Core.Bool.{Bool, true, false, cond}
use mathlib.Core.List.{List, [], ◌∷◌, ◌++◌, foldr}
use Prim.Native.Nat.{ℕ, suc, ◌+◌, ◌-◌, ◌≤◌, ◌<◌}
use native.Mathlib.Numerals.{add-one}
use native.Mathlib.Omega.{arith}
use lib.ListN.{length, take, drop, set, length-drop, length-set}
use lib.Seq.{take_all, drop-drop, take-suc-set}
use Rattle.std.specs.Prelude.{Option, Some, None}
use Rattle.forms.specs.declared.list.Part.{Part}
use Rattle.forms.specs.declared.list.Part.TheVariants.{Number, Close}
use Rattle.forms.specs.Bytes.{bytes}
use Rattle.forms.specs.Read.{starts, number, list, list_from, push, Listed, listed, broken}
use Rattle.forms.specs.Held.{part_of, part_at, Filled}
use Rattle.calculus.proofs.Tests.{join}
use Rattle.forms.proofs.Words.{starts_inside}

-- what a part `&s[k..]` holds
pub rest : {B : Type 0} (f : List ℕ → B) (k : ℕ) (l : List ℕ) → f (take (length l - k) (drop k l)) ≡ f (drop k l)
rest f k l = ap f (take_all (length l - k) (drop k l) (omega (arith, length-drop k l)))

pub byte_inside : (b : ℕ) (l : List ℕ) (at : ℕ) → starts (b ∷ []) (drop at l) ≡ true → at < length l
byte_inside b l at h = omega (arith, starts_inside (b ∷ []) (drop at l) h, length-drop at l)

-- ---- a part

pub part_space : (l : List ℕ) (at : ℕ) (r : Option (ℕ × ℕ)) → starts (bytes ")") (drop at l) ≡ false → starts (bytes " ") (drop at l) ≡ true
    → number 10 (drop (at + 1) l) ≡ r → part_at at (drop at l) ≡ part_of (at + 1) r
unfolding part_at
part_space l at r h g e = rw (h, g, drop-drop 1 at l, e)

-- by the number that stands behind the space, and where none does
module _ (l : List ℕ) (at : ℕ) (h : starts (bytes ")") (drop at l) ≡ false) (g : starts (bytes " ") (drop at l) ≡ true) where
  pub part_number : {n j : ℕ} → ◌≡◌ {A = Option (ℕ × ℕ)} (number 10 (take (length l - (at + 1)) (drop (at + 1) l))) (Some (n, j))
      → Some (Number n (at + 1 + j)) ≡ part_at at (drop at l)
  part_number {n} {j} e = sym (part_space l at (Some (n, j)) h g (join (rest (number 10) (at + 1) l) e))

  pub part_broken : number 10 (take (length l - (at + 1)) (drop (at + 1) l)) ≡ None → None ≡ part_at at (drop at l)
  part_broken e = sym (part_space l at None h g (join (rest (number 10) (at + 1) l) e))

-- ---- a list, by its first part

-- the list that starts with a part, of which `more` is what stands behind that
abbrev list_by : (ℕ → Listed) → Option Part → Listed
list_by more (Some (Number n k)) = push n (more k)
list_by more (Some (Close k)) = listed [] k
list_by more None = broken

list_by_lem : (room at : ℕ) (l : List ℕ) → list 10 (suc room) at (drop at l) ≡ list_by (λ k. list 10 room k (drop k l)) (part_at at (drop at l))
unfolding list part_at
list_by_lem room at l = go (starts (bytes ")") (drop at l)) (starts (bytes " ") (drop at l)) (number 10 (drop 1 (drop at l)))
  where
    go : (a b : Bool) (r : Option (ℕ × ℕ))
        → cond a (listed [] (at + 1)) (cond b (list_from (list 10 room) (at + 1) (drop 1 (drop at l)) r) broken)
        ≡ list_by (λ k. list 10 room k (drop k l)) (cond a (Some (Close (at + 1))) (cond b (part_of (at + 1) r) None))
    go true b r = refl
    go false true (Some (n, j)) = rw (drop-drop 1 at l, drop-drop j (at + 1) l)
    go false true None = refl
    go false false r = refl

-- ---- the places filled so far

push_snoc : (r : Listed) (ns : List ℕ) (n : ℕ) → foldr push r (ns ++ (n ∷ [])) ≡ foldr push (push n r) ns
push_snoc r [] n = refl
push_snoc r (m ∷ ns) n = ap (push m) (push_snoc r ns n)

push_listed : (ns : List ℕ) (k : ℕ) → foldr push (listed [] k) ns ≡ listed ns k
push_listed [] k = refl
push_listed (n ∷ ns) k = ap (push n) (push_listed ns k)

push_broken : (ns : List ℕ) → foldr push broken ns ≡ broken
push_broken [] = refl
push_broken (n ∷ ns) = ap (push n) (push_broken ns)

-- the first `count` places of `into` hold the numbers before place `at` of l
pub record Filling (l before into : List ℕ) (at count : ℕ) : Type 0 where
  pub few : count ≤ length before
  pub size : length into ≡ length before
  pub same : list 10 (length before) 0 l ≡ foldr push (list 10 (length before - count) at (drop at l)) (take count into)

module _ {l before into : List ℕ} {at count : ℕ} (m : Filling l before into at count) where
  -- one more place: what is left, by its first part
  filling_part : (p : Option Part) → count < length into → part_at at (drop at l) ≡ p
      → list 10 (length before) 0 l ≡ foldr push (list_by (λ k. list 10 (length before - (count + 1)) k (drop k l)) p) (take count into)
  filling_part p h e =
      let d : length before - count ≡ suc (length before - (count + 1)) = omega (arith, m.size) in
      m.same ∙ rw (d, list_by_lem (length before - (count + 1)) at l, e)

  pub filling_number : (v next : ℕ) → count < length into → part_at at (drop at l) ≡ Some (Number v next)
      → Filling l before (set into count v) next (count + 1)
  filling_number v next h e =
      record {
        few = omega (arith, m.size);
        size = length-set into count v ∙ m.size;
        same = filling_part (Some (Number v next)) h e ∙ rw (add-one, take-suc-set into count v h, push_snoc);
      }

  pub filling_close : (next : ℕ) → count < length into → part_at at (drop at l) ≡ Some (Close next)
      → Filled l before (Some (record { count = count; used = next })) into
  filling_close next h e =
      record { same = sym (filling_part (Some (Close next)) h e ∙ push_listed (take count into) next); few = m.few }

  pub filling_broken : count < length into → part_at at (drop at l) ≡ None → Filled l before None into
  filling_broken h e =
      record { same = sym (filling_part None h e ∙ push_broken (take count into)); few = omega arith }

  -- no place is left
  filling_last : (b : Bool) → length into ≤ count → starts (bytes ")") (drop at l) ≡ b
      → list 10 (length before) 0 l ≡ foldr push (cond b (listed [] (at + 1)) broken) (take count into)
  unfolding list
  filling_last b h e =
      let d : length before - count ≡ 0 = omega (arith, m.size) in
      m.same ∙ rw (d, e)

  pub filling_full : length into ≤ count → starts (bytes ")") (drop at l) ≡ true → Filled l before (Some (record { count = count; used = at + 1 })) into
  filling_full h e = record { same = sym (filling_last true h e ∙ push_listed (take count into) (at + 1)); few = m.few }

  pub filling_over : length into ≤ count → starts (bytes ")") (drop at l) ≡ false → Filled l before None into
  filling_over h e = record { same = sym (filling_last false h e ∙ push_broken (take count into)); few = omega arith }
