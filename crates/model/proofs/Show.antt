-- Show: each standing association once, no other, in order; and only one list is so. Assumes nothing.
use mathlib.Core.Path.{◌≡◌, refl, sym, ap, ◌∙◌}
use mathlib.Core.Bool.{Bool, true, false, cond}
use mathlib.Core.List.{List, [], ◌∷◌, ◌++◌}
use Prim.Native.Nat.{ℕ, zero, suc, ◌+◌, ◌≤◌, ◌<◌}
use native.Mathlib.Omega.{arith}
use lib.Dec.{ltb}
use lib.ListN.{length, get_or, take, length-take}
use lib.Seq.{get_or-take}
use Rattle.calculus.proofs.Tests.{never, not_so}
use Rattle.calculus.proofs.Table.{perhaps}
use Rattle.calculus.specs.Table.{entries_from, only_if}
use Rattle.calculus.specs.declared.answer.ShownAssociation.{ShownAssociation}
use Rattle.calculus.specs.declared.state.State.{State}
use Rattle.forms.specs.Text as form
use Rattle.forms.specs.Text.{text}
use Rattle.forms.proofs.ReadAgain.{show_read}
use Rattle.model.specs.Lists.{Rising}
use Rattle.model.specs.Row.{same_association, users_place, place_out, place_node, place_peer, are_nodes, users_of}
use Rattle.model.specs.Requests.{shown_as, association, association_at, shown, shown_lines}
use Rattle.model.specs.Calls.{reported, short, answered, requested}
use Rattle.model.specs.Show.{all_for, OneForEach, association_key, Show}
use Rattle.model.proofs.Tables.{only_all, entries_all}
use Rattle.model.proofs.Places.{same_itself, same_parts, one_place, place_below, at_place, nodes_at}
use Rattle.model.proofs.ShowLines.{shown_fits}
use Rattle.model.proofs.Rising.{Before, before_cons, rising_entries}
use Rattle.model.proofs.Alike.{Other, all_other, rising_alike}

-- ---- in order

abbrev shown_at : ℕ → ℕ → ShownAssociation
shown_at p n = shown_as (place_out p) (place_node p) (place_peer p) n

places_rise : (i j x y : ℕ) → i < j → Before association_key (shown_at i x) (shown_at j y)
places_rise i j x y h =
    let v = (at_place i).half in
    let w = (at_place j).half in
    before_cons (place_node i) (place_node j) (cond (place_out i) 1 0 ∷ place_peer i ∷ []) (cond (place_out j) 1 0 ∷ place_peer j ∷ [])
    (omega arith)
    (λ e. before_cons (cond (place_out i) 1 0) (cond (place_out j) 1 0) (place_peer i ∷ []) (place_peer j ∷ []) (omega arith)
    (λ f. before_cons (place_peer i) (place_peer j) [] [] (omega arith) (λ g. absurd (omega arith))))

shown_ordered : (l : List ℕ) → Rising association_key (shown l)
unfolding shown
shown_ordered l = rising_entries association_key (ltb 0) shown_at places_rise 0 (take 2048 l)

-- ---- one association

module _ (out : Bool) (a q : ℕ) where
  -- the one at place p is it
  abbrev is_at : ℕ → Bool
  is_at p = same_association (place_out p) (place_node p) (place_peer p) out a q

  at_parts : (p : ℕ) → is_at p ≡ true → (place_out p ≡ out) × (place_node p ≡ a) × (place_peer p ≡ q)
  at_parts p e = same_parts (place_out p) (place_node p) (place_peer p) out a q e

  places_other : (k : ℕ) (l : List ℕ) → ((p : ℕ) → k ≤ p → p < k + length l → is_at p ≡ false)
      → all_for out a q (entries_from association_at k l) ≡ []
  places_other k l h =
      all_other out a q (entries_from association_at k l)
      (entries_all (Other out a q) association_at k l (λ p n i j. only_all (Other out a q) (ltb 0 n) (λ e. h p i j)))

  -- its own line, and no line of it behind
  own_first : (n : ℕ) (rest : List ShownAssociation) → all_for out a q rest ≡ []
      → all_for out a q (association out a q n ++ rest) ≡ association out a q n
  own_first n rest h = go (ltb 0 n)
    where
      go : (b : Bool) → all_for out a q (only_if b (shown_as out a q n) ++ rest) ≡ only_if b (shown_as out a q n)
      go true = rw (same_itself out a q) (ap (λ (m : List ShownAssociation). shown_as out a q n ∷ m) h)
      go false = h

  other_first : (p n : ℕ) (rest : List ShownAssociation) → is_at p ≡ false → all_for out a q (association_at p n ++ rest) ≡ all_for out a q rest
  other_first p n rest e =
      perhaps (λ (m : List ShownAssociation). all_for out a q m ≡ all_for out a q rest) (ltb 0 n) (λ f. rw e) (λ f. refl)

  -- of all places, `at` alone is its place
  module _ (at : ℕ) (own : is_at at ≡ true) (others : (p : ℕ) → (p ≡ at → ⊥) → is_at p ≡ false) where
    place_own : (j k : ℕ) (l : List ℕ) → k + j ≡ at → all_for out a q (entries_from association_at k l) ≡ association out a q (get_or l j 0)
    unfolding entries_from
    place_own j k [] e = refl
    place_own zero k (n ∷ l) e =
        let f : k ≡ at = omega arith in
        let w = at_parts at own in
        rw (f, w.0, w.1, w.2)
        (own_first n (entries_from association_at (at + 1) l) (places_other (at + 1) l (λ p i j. others p (λ z. omega arith))))
    place_own (suc j) k (n ∷ l) e =
        other_first k n (entries_from association_at (k + 1) l) (others k (λ z. omega arith)) ∙ place_own j (k + 1) l (omega arith)

-- among all of show's associations
shown_once : (l : List ℕ) → OneForEach l (shown l)
unfolding shown users_of
shown_once l out a q = go (are_nodes a q) refl
  where
    at : ℕ
    at = users_place out a q

    go : (b : Bool) → are_nodes a q ≡ b
        → all_for out a q (entries_from association_at 0 (take 2048 l)) ≡ association out a q (cond b (get_or l at 0) 0)
    go true e =
        let i = place_below out a q e in
        place_own out a q at
        (one_place (place_out at) (place_node at) (place_peer at) out a q (nodes_at at i) e (at_place at).place)
        (λ p ne. not_so _ (λ z. let w = at_parts out a q p z in ne (sym (at_place p).place ∙ rw (w.0, w.1, w.2) refl)))
        at 0 (take 2048 l) (omega arith)
        ∙ ap (association out a q) (get_or-take 2048 l at 0 i)
    go false e =
        places_other out a q 0 (take 2048 l)
        (λ p i j.
        not_so _ (λ z. let w = at_parts out a q p z in never (sym e ∙ (rw (w.1, w.2) at (nodes_at p (omega (arith, length-take 2048 l)))))))

-- ---- the promise

show_written : (s : State) (size : ℕ)
    → answered s (text form.show) size ≡ cond (ltb size 65536) (short s) (reported s (shown_lines s.users))
unfolding answered requested
show_written s size = rw show_read

pub show : Show
show =
    record {
      written = show_written;
      once = shown_once;
      ordered = shown_ordered;
      fixed = λ l m h k. rising_alike m (shown l) k (shown_ordered l) (λ out a q. h out a q ∙ sym (shown_once l out a q));
      fits = shown_fits;
    }
