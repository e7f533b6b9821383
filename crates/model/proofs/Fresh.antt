-- The fresh state: every session's part is blank, and the users are counted. Assumes nothing.
use mathlib.Core.Path.{◌≡◌, refl, sym, ◌∙◌}
use mathlib.Core.Bool.{Bool, true}
use Prim.Native.Nat.{ℕ, ◌+◌, ◌-◌, ◌*◌, ◌≤◌}
use native.Mathlib.Omega.{arith}
use lib.ListN.{take, drop, replicate, length-replicate, get_or-replicate}
use lib.Seq.{ext_get_or, get_or-take, get_or-drop}
use Rattle.std.specs.Prelude.{Option, None}
use Rattle.calculus.specs.declared.packet.Slot.{Slot}
use Rattle.model.specs.Lists.{up_from}
use Rattle.model.specs.Row.{how_many, users_place, are_nodes, users_of}
use Rattle.model.specs.State.{blank_row, blank_session, fresh, load}
use Rattle.model.specs.Noninterference.{rows_naming}
use Rattle.model.proofs.Parts.{part_length, Numbered}
use Rattle.model.proofs.Roomy.{emptied}
use Rattle.model.proofs.Places.{place_below}
use Rattle.model.proofs.Counted.{Good}

-- an empty place
abbrev nothing : Option Slot
nothing = None

part_blank : {A : Type 0} (x : A) (b n m : ℕ) → b + n ≤ m → take n (drop b (replicate m x)) ≡ replicate n x
part_blank x b n m h =
    let e = part_length n b (replicate m x) (omega (arith, length-replicate m x)) in
    ext_get_or x (take n (drop b (replicate m x))) (replicate n x) (e ∙ sym (length-replicate n x))
    (λ i k. get_or-take n (drop b (replicate m x)) i x (omega arith) ∙ get_or-drop b (replicate m x) i x
    ∙ get_or-replicate m (b + i) x x (omega arith) ∙ sym (get_or-replicate n i x x (omega arith)))

pub load_fresh : (u : ℕ) → Numbered u → load fresh u ≡ emptied 0
unfolding load
load_fresh u hu =
    rw (
      get_or-replicate 8 (u - 1) blank_session blank_session (omega arith),
      part_blank nothing (16 * (u - 1)) 16 128 (omega arith),
      part_blank blank_row (32 * (u - 1)) 32 256 (omega arith),
    )

no_users : (out : Bool) (a q : ℕ) → are_nodes a q ≡ true → users_of fresh.users out a q ≡ 0
unfolding users_of
no_users out a q h = rw h (get_or-replicate 2048 (users_place out a q) 0 0 (place_below out a q h))

no_rows : (out : Bool) (a q : ℕ) → rows_naming out a q fresh (up_from 0 8) ≡ 0
unfolding up_from load how_many
no_rows out a q = refl

pub fresh_good : Good fresh
fresh_good =
    record {
      sized = omega (arith, length-replicate 128 nothing, length-replicate 256 blank_row, length-replicate {A = ℕ} 2048 0);
      counted = λ out a q h. no_users out a q h ∙ sym (no_rows out a q);
    }
