-- The users stored are as many as the rows that name the association: a session's move keeps it so. Assumes nothing.
use mathlib.Core.Path.{◌≡◌, refl, ap, ◌∙◌}
use mathlib.Core.Bool.{Bool, true}
use mathlib.Core.List.{List, ◌∷◌}
use Prim.Native.Nat.{ℕ, zero, suc, ◌+◌, ◌*◌, ◌≤◌, ◌<◌}
use native.Mathlib.Omega.{arith}
use native.Mathlib.Decide.{ℕ_discrete}
use lib.ListN.{length, length-take}
use Rattle.calculus.specs.declared.state.Part.{Part}
use Rattle.calculus.specs.declared.state.State.{State}
use Rattle.model.specs.Lists.{up_from}
use Rattle.model.specs.Row.{held, how_many, are_nodes, users_of, one_more, one_less, lowered}
use Rattle.model.specs.State.{load, store}
use Rattle.model.specs.Requests.{Change, changed}
use Rattle.model.specs.Noninterference.{rows_naming}
use Rattle.model.proofs.Parts.{Sized, Whole, Numbered, load_whole, load_stored, load_others, store_sized}
use Rattle.model.proofs.Users.{many_length, raised_users, lowered_users, fold_length}
use Rattle.model.proofs.Moves.{Fair}

-- ---- the rows of all sessions

held_length : (t : Part) → Whole t → length (held t) ≤ 32
held_length t h = simp length-take (omega (arith, h.rows))

module _ (out : Bool) (a q : ℕ) where
  naming_most : (s : State) → Sized s → (k n : ℕ) → n + k ≤ 8 → rows_naming out a q s (up_from n k) ≤ 32 * k
  unfolding up_from
  naming_most s hs zero n h = omega arith
  naming_most s hs (suc k) n h =
      omega (
        arith,
        naming_most s hs k (n + 1) (omega arith),
        many_length out a q (held (load s (n + 1))),
        held_length (load s (n + 1)) (load_whole s hs (n + 1) (omega arith)),
      )

  -- u's rows are among them
  naming_part : (s : State) (u k n : ℕ) → n < u → u ≤ n + k → how_many out a q (held (load s u)) ≤ rows_naming out a q s (up_from n k)
  unfolding up_from
  naming_part s u zero n h j = absurd (omega arith)
  naming_part s u (suc k) n h j = go (ℕ_discrete (n + 1) u) (naming_part s u k (n + 1))
    where
      go : Dec (n + 1 ≡ u) → (n + 1 < u → u ≤ n + 1 + k → how_many out a q (held (load s u)) ≤ rows_naming out a q s (up_from (n + 1) k))
          → how_many out a q (held (load s u)) ≤ rows_naming out a q s ((n + 1) ∷ up_from (n + 1) k)
      go (yes e) more = rw e (omega arith)
      go (no e) more = omega (arith, more (omega arith) (omega arith))

  pub naming_same : (s s' : State) (k n : ℕ) → ((v : ℕ) → n < v → v ≤ n + k → held (load s' v) ≡ held (load s v))
      → rows_naming out a q s' (up_from n k) ≡ rows_naming out a q s (up_from n k)
  unfolding up_from
  naming_same s s' zero n h = refl
  naming_same s s' (suc k) n h = rw (h (n + 1) (omega arith) (omega arith), naming_same s s' k (n + 1) (λ v i j. h v (omega arith) (omega arith)))

  -- every part but u's is the same
  module _ (s s' : State) (u : ℕ) (others : (v : ℕ) → Numbered v → (v ≡ u → ⊥) → load s' v ≡ load s v) where
    -- u's rows of s' in place of those of s
    abbrev Moved : List ℕ → Type 0
    Moved us = rows_naming out a q s' us + how_many out a q (held (load s u)) ≡ rows_naming out a q s us + how_many out a q (held (load s' u))

    pub naming_others : (k n : ℕ) → n + k ≤ 8 → u ≤ n → rows_naming out a q s' (up_from n k) ≡ rows_naming out a q s (up_from n k)
    naming_others k n h j = naming_same s s' k n (λ v i m. ap held (others v (omega arith) (λ w. omega arith)))

    naming_moved : (k n : ℕ) → n + k ≤ 8 → n < u → u ≤ n + k → Moved (up_from n k)
    unfolding up_from
    naming_moved zero n h j i = absurd (omega arith)
    naming_moved (suc k) n h j i = go (ℕ_discrete (n + 1) u) (naming_moved k (n + 1) (omega arith))
      where
        go : Dec (n + 1 ≡ u) → (n + 1 < u → u ≤ n + 1 + k → Moved (up_from (n + 1) k)) → Moved ((n + 1) ∷ up_from (n + 1) k)
        go (yes e) more = rw e (omega (arith, naming_others k u (omega arith) (omega arith)))
        go (no e) more = rw (others (n + 1) (omega arith) e) (omega (arith, more (omega arith) (omega arith)))

-- ---- states that are counted

pub record Good (s : State) : Type 0 where
  pub sized : Sized s
  pub counted : (out : Bool) (a q : ℕ) → are_nodes a q ≡ true → users_of s.users out a q ≡ rows_naming out a q s (up_from 0 8)

changed_sized : (s : State) (c : Change) → Sized s → Sized (changed s c)
unfolding changed
changed_sized s c h =
    omega (arith, h, fold_length one_more c.came (lowered s.users c.went), fold_length one_less c.went s.users)

-- session u's part stored after a change of the tables that sessions share
module _ (s : State) (hs : Sized s) (u : ℕ) (hu : Numbered u) (t : Part) (ht : Whole t) (c : Change) where
  pub stored_own : load (store (changed s c) u t) u ≡ t
  stored_own = load_stored (changed s c) (changed_sized s c hs) t ht u hu

  pub stored_others : (v : ℕ) → Numbered v → (v ≡ u → ⊥) → load (store (changed s c) u t) v ≡ load s v
  unfolding load changed
  stored_others v hv ne = load_others (changed s c) (changed_sized s c hs) t ht v u hv hu ne

module _ (s : State) (g : Good s) where
  pub users_most : (out : Bool) (a q : ℕ) → are_nodes a q ≡ true → users_of s.users out a q ≤ 256
  users_most out a q h = omega (arith, g.counted out a q h, naming_most out a q s g.sized 8 0 (omega arith))

  module _ (u : ℕ) (hu : Numbered u) where
    pub users_least : (out : Bool) (a q : ℕ) → are_nodes a q ≡ true → how_many out a q (held (load s u)) ≤ users_of s.users out a q
    users_least out a q h = omega (arith, g.counted out a q h, naming_part out a q s u 8 0 (omega (arith, hu)) (omega (arith, hu)))

    -- the users move as the rows do
    users_moved : (t : Part) (c : Change) → Fair (load s u) t c → (out : Bool) (a q : ℕ) → are_nodes a q ≡ true
        → users_of (changed s c).users out a q + how_many out a q (held (load s u)) ≡ users_of s.users out a q + how_many out a q (held t)
    unfolding changed
    users_moved t c f out a q h =
        let l = lowered_users out a q h c.went s.users g.sized.users (omega (arith, f.went out a q, users_least out a q h)) in
        let n = fold_length one_less c.went s.users ∙ g.sized.users in
        let r = raised_users out a q h c.came (lowered s.users c.went) n (omega (arith, l, f.came, users_most out a q h)) in
        omega (arith, l, r, f.rows out a q)

    pub stored_good : (t : Part) (c : Change) → Fair (load s u) t c → Good (store (changed s c) u t)
    unfolding store
    stored_good t c f =
        let s' = store (changed s c) u t in
        let others = stored_others s g.sized u hu t f.whole c in
        record {
          sized = store_sized (changed s c) (changed_sized s c g.sized) t f.whole u hu;
          counted = λ out a q h.
              omega (
                arith,
                users_moved t c f out a q h,
                g.counted out a q h,
                naming_moved out a q s s' u others 8 0 (omega arith) (omega (arith, hu)) (omega (arith, hu)),
                ap (λ (x : Part). how_many out a q (held x)) (stored_own s g.sized u hu t f.whole c),
              );
        }
