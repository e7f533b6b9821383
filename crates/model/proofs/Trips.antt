-- The way of a packet that goes bare from its source to its destination, and how many steps it takes. Assumes nothing.
use mathlib.Core.Path.{◌≡◌, refl, sym, subst, ◌∙◌}
use mathlib.Core.Bool.{Bool, true, false, not}
use Prim.Native.Nat.{ℕ, ◌+◌, ◌≤◌, ◌<◌}
use native.Mathlib.Omega.{arith}
use lib.Dec.{eqb}
use borrow.Author.Tests.{eqb-true, eqb-false, eq-eqb}
use Rattle.std.specs.Prelude.{None}
use Rattle.calculus.proofs.Tests.{never, either}
use Rattle.calculus.specs.declared.answer.Loss.{Loss}
use Rattle.calculus.specs.declared.effect.Effect.{Effect}
use Rattle.calculus.specs.declared.network.Network.{Network}
use Rattle.std.specs.Prelude.{Option}
use Rattle.calculus.specs.declared.network.NextHop.{NextHop}
use Rattle.calculus.specs.declared.packet.Payload.{Payload}
use Rattle.calculus.specs.declared.packet.Packet.{Packet}
use Rattle.calculus.specs.declared.packet.Item.{Item}
use Rattle.calculus.specs.declared.packet.Item.TheVariants.{Wire, Out, Up}
use Rattle.calculus.specs.declared.state.Part.{Part}
use Rattle.model.specs.Network.{is_gateway, next_hop}
use Rattle.model.specs.Packet.{bare, no_hops_left, fewer}
use Rattle.model.specs.Row.{held, newest, are_nodes}
use Rattle.model.specs.Rules.{lost, writes, discovers, unprotected, onward, wire_rule, created, out_rule, matched, received, up_rule, rule}
use Rattle.model.specs.Termination.{trip_steps}

-- a bare packet with h hops left
abbrev pub bare_with : ℕ → ℕ → Payload → ℕ → Packet
bare_with a b y h = record { source = a; destination = b; payload = y; hops = h; header = None }

-- where a packet from x to z can stand, and how many steps can follow until it is received
pub data Trip (x z : ℕ) (y : Payload) : ℕ → Item → Type 0 where
  at_source : Trip x z y trip_steps (Out x (bare x z y))
  on_wire : (a h : ℕ) → Trip x z y (h + 2) (Wire a (bare_with x z y h))
  arrived : (h : ℕ) → Trip x z y 1 (Up z (bare_with x z y h))

pub trip_some : {x z : ℕ} {y : Payload} {j : ℕ} {i : Item} → Trip x z y j i → 1 ≤ j
trip_some at_source = omega arith
trip_some (on_wire a h) = omega arith
trip_some (arrived h) = omega arith

-- what a step of it does
pub data Travels (x z : ℕ) (y : Payload) (j : ℕ) : Effect → Type 0 where
  gone : (l : Loss) → Travels x z y j (lost l)
  further : (k : ℕ) (i : Item) → Trip x z y k i → k < j → Travels x z y j (writes i)
  moves : (next : Option NextHop) (h : ℕ) → h + 2 < j → Travels x z y j (onward next (bare_with x z y h))
  comes : Travels x z y j (received z x y)

module _ (n : Network) (t : Part) (x z : ℕ) (y : Payload)
    (quiet : (g : Bool) (v a : ℕ) → discovers g v a y ≡ false) where
  -- where it is still to be sent, it is sent bare
  pub travels : {j : ℕ} {i : Item} → (trip_steps ≤ j → newest (held t) true x (bare x z y) ≡ None) → Trip x z y j i
      → Travels x z y j (rule n are_nodes t i)
  unfolding rule out_rule wire_rule up_rule
  travels none at_source =
      let p = bare x z y in
      either (Travels x z y trip_steps) (created x p)
      (λ e. rw (none (omega arith)) (further (p.hops + 2) _ (on_wire x p.hops) (omega arith)))
      (λ e. rw (none (omega arith)) (further ((fewer p).hops + 2) _ (on_wire x (fewer p).hops) (omega arith)))
  travels none (on_wire a h) =
      let p = bare_with x z y h in
      let P = Travels x z y (h + 2) in
      either P (discovers (is_gateway n a) t.session.server a y) (λ e. never (sym (quiet _ _ _) ∙ e))
      (λ e. either P (eqb a z) (λ k. subst (λ (b : ℕ). P (writes (Up b p))) (sym (eqb-true a z k)) (further 1 _ (arrived h) (omega arith)))
      (λ e. either P (unprotected (is_gateway n a) p) (λ e. gone _)
      (λ e. either P (no_hops_left p) (λ e. gone _) (λ e. moves (next_hop n a z) _ (omega (arith, eqb-false h 0 e))))))
  travels none (arrived h) =
      either (Travels x z y 1) (not (matched (held t) z (bare_with x z y h))) (λ e. gone _) (λ e. rw (eq-eqb z z refl) comes)
