-- Items weighed by any weight, and what a step does to their weight. Assumes nothing.
use mathlib.Core.Path.{◌≡◌, refl, sym, ap, ap₂, ◌∙◌}
use mathlib.Core.Bool.{Bool, true, false}
use mathlib.Core.List.{List, [], ◌∷◌}
use Prim.Native.Nat.{ℕ, zero, suc, ◌+◌, ◌≤◌, ◌<◌}
use native.Mathlib.Nat.{add-zero}
use native.Mathlib.Omega.{arith}
use lib.Dec.{eqb}
use lib.ListN.{length, set, length-set}
use borrow.Author.Tests.{eqb-true}
use Rattle.std.specs.Prelude.{Option, Some, None, is_some, is_none, position}
use Rattle.std.specs.List.{position_or_len}
use Rattle.std.proofs.lemmas.List.Sums.{passes_at_first}
use Rattle.calculus.proofs.Tests.{both, never}
use Rattle.calculus.specs.declared.effect.Outcome.{Outcome}
use Rattle.calculus.specs.declared.effect.Outcome.TheVariants.{Wrote, WroteByDefault, WroteTwo, Lost, Denied, Opened, Delivered}
use Rattle.calculus.specs.declared.effect.Wait.{Wait}
use Rattle.calculus.specs.declared.effect.Wait.TheVariants.{Discovery, Establishment}
use Rattle.calculus.specs.declared.effect.Effect.{Effect}
use Rattle.calculus.specs.declared.packet.Item.{Item}
use Rattle.calculus.specs.declared.packet.Item.TheVariants.{Wire, Out, Up, Est, Auth, Grant, Ack, Dwait, Ewait}
use Rattle.calculus.specs.declared.packet.Slot.{Slot}
use Rattle.model.specs.Lists.{tally}
use Rattle.model.specs.State.{set_found, use_up, put_item, written, written_count, items_after}
use Rattle.model.specs.Item.{is_wait, same_wait, is_that_wait, of_item, how_many_items, slot_at}
use Rattle.model.specs.SetUp.{Pends, wait_item}
use Rattle.model.proofs.Checks.{one}
use Rattle.model.proofs.Lists.{first_below, found}

-- ---- weights

-- 1 where f holds
abbrev pub count : (Item → Bool) → Item → ℕ
count f i = one (f i)

-- 1 for each item
abbrev pub every : Item → ℕ
every i = 1

-- the weight of what is in a place
abbrev pub weight_in : (Item → ℕ) → Option Slot → ℕ
weight_in w None = 0
weight_in w (Some s) = w s.item

unfoldable pub weigh : (Item → ℕ) → List (Option Slot) → ℕ
weigh w [] = 0
weigh w (x ∷ l) = weight_in w x + weigh w l

-- the items that an outcome writes
abbrev pub weigh_out : (Item → ℕ) → Outcome → ℕ
weigh_out w (Wrote i) = w i
weigh_out w (WroteByDefault i) = w i
weigh_out w (WroteTwo i j) = w i + w j
weigh_out w (Lost k) = 0
weigh_out w Denied = 0
weigh_out w Opened = 0
weigh_out w (Delivered tag) = 0

-- the wait that is used up
abbrev pub weigh_wait : (Item → ℕ) → Option Wait → ℕ
weigh_wait w None = 0
weigh_wait w (Some v) = w (wait_item v)

pub counted : (f : Item → Bool) (l : List (Option Slot)) → how_many_items f l ≡ weigh (count f) l
unfolding weigh
counted f [] = refl
counted f (None ∷ l) = omega (arith, counted f l)
counted f (Some s ∷ l) = omega (arith, counted f l)

module _ (v w : Item → ℕ) where
  pub weigh_le : ((i : Item) → v i ≤ w i) → (l : List (Option Slot)) → weigh v l ≤ weigh w l
  unfolding weigh
  weigh_le h [] = omega arith
  weigh_le h (None ∷ l) = omega (arith, weigh_le h l)
  weigh_le h (Some s ∷ l) = omega (arith, h s.item, weigh_le h l)

  pub weigh_sum : (l : List (Option Slot)) → weigh (λ i. v i + w i) l ≡ weigh v l + weigh w l
  unfolding weigh
  weigh_sum [] = refl
  weigh_sum (None ∷ l) = omega (arith, weigh_sum l)
  weigh_sum (Some s ∷ l) = omega (arith, weigh_sum l)

-- ---- an item in its place, and a wait

pub slot_below : (l : List (Option Slot)) (at : ℕ) (s : Slot) → slot_at l at ≡ Some s → at < length l
slot_below [] at s e = absurd (cc)
slot_below (x ∷ l) zero s e = omega arith
slot_below (x ∷ l) (suc at) s e = omega (arith, slot_below l at s e)

same_wait_lem : (v w : Wait) → same_wait v w ≡ true → w ≡ v
same_wait_lem (Discovery a) (Discovery b) k = ap Discovery (sym (eqb-true a b k))
same_wait_lem (Discovery a) (Establishment b f) k = never k
same_wait_lem (Establishment a e) (Discovery b) k = never k
same_wait_lem (Establishment a e) (Establishment b f) k =
    let h = both (eqb a b) (eqb e f) k in
    ap₂ Establishment (sym (eqb-true a b h.0)) (sym (eqb-true e f h.1))

wait_is : (v : Wait) (i : Item) → is_that_wait v i ≡ true → i ≡ wait_item v
wait_is v (Wire b p) k = never k
wait_is v (Out b p) k = never k
wait_is v (Up b p) k = never k
wait_is v (Est b c f) k = never k
wait_is v (Auth b q f side) k = never k
wait_is v (Grant b q f side) k = never k
wait_is v (Ack b f) k = never k
wait_is v (Dwait b) k = ap wait_item (same_wait_lem v (Discovery b) k)
wait_is v (Ewait b f) k = ap wait_item (same_wait_lem v (Establishment b f) k)

-- an item that is no wait is not that wait
pub not_that_wait : (v : Wait) (i : Item) → is_wait i ≡ false → count (is_that_wait v) i ≡ 0
not_that_wait v (Wire b p) h = refl
not_that_wait v (Out b p) h = refl
not_that_wait v (Up b p) h = refl
not_that_wait v (Est b c f) h = refl
not_that_wait v (Auth b q f side) h = refl
not_that_wait v (Grant b q f side) h = refl
not_that_wait v (Ack b f) h = refl
not_that_wait v (Dwait b) h = never (sym h)
not_that_wait v (Ewait b f) h = never (sym h)

-- ---- the items after a step

-- every place is free or has an item
pub free_or_pending : (l : List (Option Slot)) → tally is_none l + weigh every l ≡ length l
unfolding weigh
free_or_pending [] = refl
free_or_pending (None ∷ l) = omega (arith, free_or_pending l)
free_or_pending (Some s ∷ l) = omega (arith, free_or_pending l)

pub pending_weigh : (l : List (Option Slot)) → tally is_some l ≡ weigh every l
unfolding weigh
pending_weigh [] = refl
pending_weigh (None ∷ l) = omega (arith, pending_weigh l)
pending_weigh (Some s ∷ l) = omega (arith, pending_weigh l)

module _ (w : Item → ℕ) where
  pub weigh_set : (l : List (Option Slot)) (i : ℕ) (x : Option Slot) → i < length l
      → weigh w (set l i x) + weight_in w (slot_at l i) ≡ weigh w l + weight_in w x
  unfolding weigh
  weigh_set [] i x h = absurd (omega arith)
  weigh_set (s ∷ l) zero x h = omega arith
  weigh_set (s ∷ l) (suc i) x h = omega (arith, weigh_set l i x (omega arith))

  -- the item in a place is gone
  pub weigh_gone : (l : List (Option Slot)) (i : ℕ) (s : Slot) → slot_at l i ≡ Some s → weigh w (set l i None) + w s.item ≡ weigh w l
  weigh_gone l i s e = omega (arith, ap (weight_in w) e, weigh_set l i None (slot_below l i s e))

  pub weigh_at : (l : List (Option Slot)) (i : ℕ) (s : Slot) → slot_at l i ≡ Some s → w s.item ≤ weigh w l
  weigh_at l i s e = omega (arith, weigh_gone l i s e)

  -- x in the first place of which f holds, where all such weigh n
  weigh_first : (f : Option Slot → Bool) (n : ℕ) → ((y : Option Slot) → f y ≡ true → weight_in w y ≡ n) → (l : List (Option Slot))
      (x : Option Slot) → 1 ≤ tally f l → weigh w (set_found l (position f l) x) + n ≡ weigh w l + weight_in w x
  weigh_first f n is l x h =
      let at = position_or_len f l in
      let below = first_below f l h in
      rw (found f l h)
      (omega (arith, is (slot_at l at) (passes_at_first f l None below), weigh_set l at x below))

  none_weighs : (y : Option Slot) → is_none y ≡ true → weight_in w y ≡ 0
  none_weighs None k = refl
  none_weighs (Some s) k = never k

  pub weigh_put : (l : List (Option Slot)) (n : ℕ) (i : Item) → weigh every l < length l → weigh w (put_item l n i) ≡ weigh w l + w i
  unfolding put_item
  weigh_put l n i h =
      omega (arith, weigh_first is_none 0 none_weighs l (Some (record { number = record { 0 = n }; item = i })) (omega (arith, free_or_pending l)))

  wait_weighs : (v : Wait) (y : Option Slot) → of_item (is_that_wait v) y ≡ true → weight_in w y ≡ w (wait_item v)
  wait_weighs v None k = never k
  wait_weighs v (Some s) k = ap w (wait_is v s.item k)

  weigh_use : (l : List (Option Slot)) (v : Option Wait) → Pends l v → weigh w (use_up l v) + weigh_wait w v ≡ weigh w l
  unfolding use_up
  weigh_use l None h = add-zero (weigh w l)
  weigh_use l (Some v) h = omega (arith, weigh_first (of_item (is_that_wait v)) (w (wait_item v)) (wait_weighs v) l None h)

-- ---- lengths

length_found : (l : List (Option Slot)) (o : Option ℕ) (x : Option Slot) → length (set_found l o x) ≡ length l
length_found l None x = refl
length_found l (Some at) x = length-set l at x

pub length_put : (l : List (Option Slot)) (n : ℕ) (i : Item) → length (put_item l n i) ≡ length l
unfolding put_item
length_put l n i = length_found l _ _

length_use : (l : List (Option Slot)) (v : Option Wait) → length (use_up l v) ≡ length l
unfolding use_up
length_use l None = refl
length_use l (Some v) = length_found l _ _

length_written : (l : List (Option Slot)) (n : ℕ) (o : Outcome) → length (written l n o) ≡ length l
length_written l n (Wrote i) = simp length_put
length_written l n (WroteByDefault i) = simp length_put
length_written l n (WroteTwo i j) = simp length_put
length_written l n (Lost k) = refl
length_written l n Denied = refl
length_written l n Opened = refl
length_written l n (Delivered tag) = refl

pub length_after : (l : List (Option Slot)) (n at : ℕ) (f : Effect) → length (items_after l n at f) ≡ length l
unfolding items_after
length_after l n at f = simp (length_written, length_use, length-set)

-- ---- the ledger of a step

module _ (w : Item → ℕ) where
  weigh_written : (l : List (Option Slot)) (n : ℕ) (o : Outcome) → weigh every l + written_count o ≤ length l
      → weigh w (written l n o) ≡ weigh w l + weigh_out w o
  weigh_written l n (Wrote i) h = weigh_put w l (n + 1) i (omega arith)
  weigh_written l n (WroteByDefault i) h = weigh_put w l (n + 1) i (omega arith)
  weigh_written l n (WroteTwo i j) h =
      let room = weigh_put every l (n + 1) i (omega arith) in
      weigh_put w (put_item l (n + 1) i) _ j (omega (arith, room, length_put l (n + 1) i))
      ∙ ap (λ (x : ℕ). x + w j) (weigh_put w l (n + 1) i (omega arith))
      ∙ omega arith
  weigh_written l n (Lost k) h = omega arith
  weigh_written l n Denied h = omega arith
  weigh_written l n Opened h = omega arith
  weigh_written l n (Delivered tag) h = omega arith

  -- with the stepped item and the wait gone, the items written come in whole
  pub ledger : (l : List (Option Slot)) (n at : ℕ) (s : Slot) (f : Effect) → slot_at l at ≡ Some s → Pends (set l at None) f.wait
      → weigh every l + written_count f.outcome ≤ length l + 1
      → weigh w (items_after l n at f) + (w s.item + weigh_wait w f.wait) ≡ weigh w l + weigh_out w f.outcome
  unfolding items_after
  ledger l n at s f e p r =
      let rest : List (Option Slot) = set l at None in
      let used = use_up rest f.wait in
      let taken = weigh_gone every l at s e in
      let used-up = weigh_use every rest f.wait p in
      let size : length used ≡ length l = simp (length_use, length-set) in
      omega (
        arith,
        weigh_gone w l at s e,
        weigh_use w rest f.wait p,
        weigh_written used n f.outcome (omega (arith, taken, used-up)),
      )
