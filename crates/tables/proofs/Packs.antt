-- Loops that take every session's part out of a state, and that put them back, one session a turn. Assumes nothing.
use mathlib.Core.Path.{◌≡◌, sym, ◌∙◌}
use mathlib.Core.List.{List}
use Prim.Native.Nat.{ℕ, ◌+◌, ◌≤◌, ◌<◌}
use native.Mathlib.Decide.{dec_lt}
use native.Mathlib.Omega.{arith}
use lib.ListN.{length, get_or}
use lib.Seq.{set-get_or, get_or-set_same}
use Rattle.calculus.specs.declared.state.Part.{Part}
use Rattle.calculus.specs.declared.state.State.{State}
use Rattle.model.specs.State.{load, store}
use Rattle.model.proofs.Parts.{Sized, Whole, load_stored, load_others}

-- of eight parts, the first i are those of s
pub record Unpacked (s : State) (parts : List Part) (i : ℕ) : Type 0 where
  pub many : length parts ≡ 8
  pub each : (u : ℕ) → u < i → (t : Part) → get_or parts u t ≡ load s (u + 1)

-- r has the tables that all sessions share as in s
pub record Shared (s r : State) : Type 0 where
  pub opened : r.opened ≡ s.opened
  pub network : r.network ≡ s.network
  pub users : r.users ≡ s.users

store_shared : {s r : State} → Shared s r → (u : ℕ) (t : Part) → Shared s (store r u t)
unfolding store
store_shared h u t = record { opened = h.opened; network = h.network; users = h.users }

-- the first i of eight parts are put back into s: r has them
pub record Packed (s : State) (parts : List Part) (r : State) (i : ℕ) : Type 0 where
  pub own : Unpacked r parts i
  pub shared : Shared s r

module _ {s : State} {parts : List Part} {r : State} {i : ℕ} (w : Packed s parts r i) where
  pub packed_more : i < 8 → Sized r → (z : Part) → Whole (get_or parts i z) → Packed s parts (store r (i + 1) (get_or parts i z)) (i + 1)
  packed_more k sized z whole =
      record {
        own = record { many = w.own.many; each = λ u q t. go u t (dec_lt u i) (omega arith) };
        shared = store_shared w.shared (i + 1) (get_or parts i z);
      }
    where
      go : (u : ℕ) (t : Part) → Dec (u < i) → u ≤ i → get_or parts u t ≡ load (store r (i + 1) (get_or parts i z)) (u + 1)
      go u t (yes p) q =
          w.own.each u p t
          ∙ sym (load_others r sized (get_or parts i z) whole (u + 1) (i + 1) (omega arith) (omega arith) (λ e. omega arith))
      go u t (no p) q =
          let f : u ≡ i = omega arith in
          rw f
          (rw set-get_or at (get_or-set_same parts i (get_or parts i z) t (omega (arith, w.own.many)))
          ∙ sym (load_stored r sized (get_or parts i z) whole (i + 1) (omega arith)))
