-- A choice by tests: what holds of each way holds of the choice. Assumes nothing.
use mathlib.Core.Path.{◌≡◌, refl}
use mathlib.Core.Bool.{Bool, true, false, cond}
use mathlib.Core.List.{List, [], ◌∷◌}
use Prim.Native.Nat.{ℕ, ◌≤◌}
use native.Mathlib.Omega.{arith}
use lib.Dec.{eqb}
use Rattle.calculus.specs.Answer.{refusal_number}
use Rattle.calculus.proofs.Tests.{either}
use Rattle.calculus.specs.declared.answer.Refusal.{Refusal}
use Rattle.std.specs.Prelude.{Result, Ok, Err}
use Rattle.model.specs.Requests.{Check, checked}

-- a test, counted
abbrev pub one : Bool → ℕ
one b = cond b 1 0

pub one_le : (b : Bool) → one b ≤ 1
one_le true = omega arith
one_le false = omega arith

-- no test holds
abbrev Passed : List Check → Type 0
Passed [] = Unit
Passed (c ∷ cs) = (c.0 ≡ false) × Passed cs

-- what holds of every refusal, and of x where no test holds
pub checked_either : {A : Type 0} (P : Result A Refusal → Type 0) → ((r : Refusal) → P (Err r)) → (cs : List Check) {x : A}
    → (Passed cs → P (Ok x)) → P (checked cs x)
unfolding checked
checked_either P h [] k = k tt
checked_either P h (c ∷ cs) k = either P c.0 (λ e. h c.1) (λ e. checked_either P h cs (λ p. k (e, p)))

-- where no test holds it is x
pub checked_passed : {A : Type 0} (cs : List Check) (x : A) → Passed cs → checked cs x ≡ Ok x
unfolding checked
checked_passed [] x p = refl
checked_passed (c ∷ cs) x p = rw p.0 (checked_passed cs x p.1)

-- a refusal but number 0
abbrev pub IsWritten : Refusal → Type 0
IsWritten r = eqb (refusal_number r) 0 ≡ false

abbrev AreWritten : List Check → Type 0
AreWritten [] = Unit
AreWritten (c ∷ cs) = IsWritten c.1 × AreWritten cs

-- what holds of every refusal but number 0, and of x
pub checked_written : {A : Type 0} (P : Result A Refusal → Type 0) → ((r : Refusal) → IsWritten r → P (Err r))
    → (cs : List Check) {x : A} → AreWritten cs → P (Ok x) → P (checked cs x)
unfolding checked
checked_written P h [] w k = k
checked_written P h (c ∷ cs) w k = either P c.0 (λ e. h c.1 w.0) (λ e. checked_written P h cs w.1 k)
