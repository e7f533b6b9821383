-- What an accepted route call does to the look-up (document 02, #104). Proved in proofs/LookUp. Assumes nothing.
use Rattle.std.specs.Prelude.{ℕ, ◌≡◌, true, cond, ◌&&◌, Option, Some, None, eqb, Ok}
use Rattle.calculus.specs.Number.{is_node}
use Rattle.calculus.specs.declared.answer.Answer.{Answer}
use Rattle.calculus.specs.declared.network.NextHop.{NextHop}
use Rattle.calculus.specs.declared.network.NextHop.TheVariants.{Exact, Default}
use Rattle.calculus.specs.declared.state.State.{State}
use Rattle.model.specs.Network.{next_hop}
use Rattle.model.specs.State.{fresh}
use Rattle.model.specs.Requests.{route_turn}
use Rattle.model.specs.GivenBack.{Consistent}

-- what the look-up says once a default that leads to next is set; one that it had stays, since a second is refused
abbrev pub with_default : ℕ → Option NextHop → Option NextHop
with_default next (Some own) = Some own
with_default next None = Some (Default next)

-- the look-up from x for y
pub record LookUp : Type 0 where
  -- on a fresh state it says none
  pub at_first : (x y : ℕ) → next_hop fresh.network x y ≡ None
  -- an accepted route from a for node b is what the look-up from a for b says, also beside a default; no other look-up changes
  pub exact : (s : State) (a b next : ℕ) → Consistent s.network → is_node b ≡ true → (route_turn s a b next).answer ≡ Ok Answer.Ok
      → (x y : ℕ) → next_hop (route_turn s a b next).state.network x y ≡ cond (eqb x a && eqb y b) (Some (Exact next)) (next_hop s.network x y)
  -- "(route 2 0 3) sets next 3 wherever node 2 has no route of its own"; no other look-up changes
  pub default : (s : State) (a next : ℕ) → Consistent s.network → (route_turn s a 0 next).answer ≡ Ok Answer.Ok
      → (x y : ℕ) → is_node y ≡ true
      → next_hop (route_turn s a 0 next).state.network x y ≡ cond (eqb x a) (with_default next (next_hop s.network x y)) (next_hop s.network x y)
