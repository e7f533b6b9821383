-- A session's part after a store: what was stored for the session itself, what it was for any other. Assumes nothing.
use mathlib.Core.Path.{◌≡◌, sym, ap, ◌∙◌}
use mathlib.Core.List.{List, ◌++◌}
use mathlib.Core.Logic.{◌⊎◌, inl, inr, ⊎_elim}
use Prim.Native.Nat.{ℕ, ◌+◌, ◌-◌, ◌*◌, ◌≤◌, ◌<◌}
use native.Mathlib.Omega.{arith}
use native.Mathlib.Decide.{dec_lt}
use lib.ListN.{length, get_or, take, drop, length-take, length-drop, length-set, get_or-append}
use lib.Seq.{paste, length-paste, length_paste_head, drop-paste, get_or-take, get_or-drop, get_or-append-add, length-take-le, ext_get_or, get_or-set_same, get_or-set_other}
use Rattle.std.specs.Prelude.{None}
use Rattle.calculus.specs.declared.state.Part.{Part}
use Rattle.calculus.specs.declared.state.State.{State}
use Rattle.model.specs.State.{load, store, blank_row, blank_session}

pub part_length : {A : Type 0} (n a : ℕ) (l : List A) → a + n ≤ length l → length (take n (drop a l)) ≡ n
part_length n a l h = simp (length-take, length-drop) (omega arith)

-- n elements of l from place b on, replaced by those of t
module _ {A : Type 0} (l : List A) (b : ℕ) (t : List A) (n : ℕ) (z : A) (hl : b + n ≤ length l) (ht : length t ≡ n) where
  paste_before : (i : ℕ) → i < b → get_or (paste l b t n) i z ≡ get_or l i z
  paste_before i h =
      let e : length (take b l ++ take n t) ≡ b + n = length_paste_head l b t n (omega arith) (omega arith) in
      let f : length (take b l) ≡ b = length-take-le b l (omega arith) in
      get_or-append (take b l ++ take n t) (drop (b + n) l) z i (omega arith)
      ∙ get_or-append (take b l) (take n t) z i (omega arith)
      ∙ get_or-take b l i z h

  paste_after : (i : ℕ) → b + n ≤ i → get_or (paste l b t n) i z ≡ get_or l i z
  paste_after i h =
      let k : b + n + (i - (b + n)) ≡ i = omega arith in
      rw k at
      (sym (get_or-drop (b + n) (paste l b t n) (i - (b + n)) z)
      ∙ ap (λ (x : List A). get_or x (i - (b + n)) z) (drop-paste l b t n (omega arith) (omega arith))
      ∙ get_or-drop (b + n) l (i - (b + n)) z)

  paste_in : (i : ℕ) → i < n → get_or (paste l b t n) (b + i) z ≡ get_or t i z
  paste_in i h =
      let e : length (take b l ++ take n t) ≡ b + n = length_paste_head l b t n (omega arith) (omega arith) in
      let f : length (take b l) ≡ b = length-take-le b l (omega arith) in
      get_or-append (take b l ++ take n t) (drop (b + n) l) z (b + i) (omega arith)
      ∙ rw f at (get_or-append-add (take b l) (take n t) i z)
      ∙ get_or-take n t i z h

  -- the part that was stored
  part_same : take n (drop b (paste l b t n)) ≡ t
  part_same =
      let e : length (paste l b t n) ≡ length l = length-paste l b t n hl (omega arith) in
      let f : length (take n (drop b (paste l b t n))) ≡ n = part_length n b (paste l b t n) (omega arith) in
      ext_get_or z (take n (drop b (paste l b t n))) t (omega arith)
      (λ i h. get_or-take n (drop b (paste l b t n)) i z (omega arith) ∙ get_or-drop b (paste l b t n) i z ∙ paste_in i (omega arith))

  -- a part beside it
  part_other : (a : ℕ) → a + n ≤ length l → (a + n ≤ b) ⊎ (b + n ≤ a) → take n (drop a (paste l b t n)) ≡ take n (drop a l)
  part_other a ha apart =
      let e : length (paste l b t n) ≡ length l = length-paste l b t n hl (omega arith) in
      let f : length (take n (drop a (paste l b t n))) ≡ n = part_length n a (paste l b t n) (omega arith) in
      let g : length (take n (drop a l)) ≡ n = part_length n a l ha in
      ext_get_or z (take n (drop a (paste l b t n))) (take n (drop a l)) (omega arith)
      (λ i h.
      let k : i < n = omega arith in
      get_or-take n (drop a (paste l b t n)) i z k
      ∙ get_or-drop a (paste l b t n) i z
      ∙ ⊎_elim (λ p. paste_before (a + i) (omega arith)) (λ p. paste_after (a + i) (omega arith)) apart
      ∙ sym (get_or-drop a l i z)
      ∙ sym (get_or-take n (drop a l) i z k))

-- the tables have their lengths
pub record Sized (s : State) : Type 0 where
  pub sessions : length s.sessions ≡ 8
  pub items : length s.items ≡ 128
  pub rows : length s.rows ≡ 256
  pub users : length s.users ≡ 2048

pub record Whole (t : Part) : Type 0 where
  pub items : length t.items ≡ 16
  pub rows : length t.rows ≡ 32

-- u is 1 to 8
pub record Numbered (u : ℕ) : Type 0 where
  pub least : 1 ≤ u
  pub most : u ≤ 8

module _ (s : State) (hs : Sized s) where
  pub load_whole : (u : ℕ) → Numbered u → Whole (load s u)
  unfolding load
  load_whole u hu =
      record { items = simp (length-take, length-drop) (omega arith); rows = simp (length-take, length-drop) (omega arith) }

  module _ (t : Part) (ht : Whole t) where
    pub store_sized : (u : ℕ) → Numbered u → Sized (store s u t)
    unfolding store
    store_sized u hu =
        omega (
          arith,
          hs,
          length-set s.sessions (u - 1) t.session,
          length-paste s.items (16 * (u - 1)) t.items 16 (omega arith) (omega arith),
          length-paste s.rows (32 * (u - 1)) t.rows 32 (omega arith) (omega arith),
        )

    pub load_stored : (u : ℕ) → Numbered u → load (store s u t) u ≡ t
    unfolding load store
    load_stored u hu =
        simp (
          get_or-set_same s.sessions (u - 1) t.session blank_session (omega arith),
          part_same s.items (16 * (u - 1)) t.items 16 None (omega arith) ht.items,
          part_same s.rows (32 * (u - 1)) t.rows 32 blank_row (omega arith) ht.rows,
        )

    pub load_others : (u v : ℕ) → Numbered u → Numbered v → (u ≡ v → ⊥) → load (store s v t) u ≡ load s u
    unfolding load store
    load_others u v hu hv ne = go (dec_lt u v)
      where
        beside : (16 * (u - 1) + 16 ≤ 16 * (v - 1)) ⊎ (16 * (v - 1) + 16 ≤ 16 * (u - 1))
            → (32 * (u - 1) + 32 ≤ 32 * (v - 1)) ⊎ (32 * (v - 1) + 32 ≤ 32 * (u - 1)) → load (store s v t) u ≡ load s u
        beside p q =
            simp (
              get_or-set_other s.sessions (v - 1) (u - 1) t.session blank_session (omega arith),
              part_other s.items (16 * (v - 1)) t.items 16 None (omega arith) ht.items (16 * (u - 1)) (omega arith) p,
              part_other s.rows (32 * (v - 1)) t.rows 32 blank_row (omega arith) ht.rows (32 * (u - 1)) (omega arith) q,
            )

        go : Dec (u < v) → load (store s v t) u ≡ load s u
        go (yes p) = beside (inl (omega arith)) (inl (omega arith))
        go (no p) = beside (inr (omega arith)) (inr (omega arith))
