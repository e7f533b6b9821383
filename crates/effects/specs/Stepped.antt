-- A step's effect, made where numbers are left. Cited by `stepped`. Assumes nothing.
use Rattle.std.specs.Prelude.{ℕ, [], ◌∷◌}
use Rattle.calculus.specs.declared.answer.Refusal.TheVariants.{Spent}
use Rattle.calculus.specs.declared.effect.Effect.{Effect}
use Rattle.calculus.specs.declared.state.Part.{Part}
use Rattle.model.specs.Requests.{Move, checked, spent, stepped}

-- the last of a step's refusals, 10, or the effect f of the item at place `at`
abbrev pub stepped_unless_spent : Part → ℕ → Effect → Move
stepped_unless_spent t at f = checked ((spent t, Spent) ∷ []) (stepped t at f)
