-- Tests that compute, and what they say. For every crate. Assumes nothing.
use mathlib.Core.Path.{◌≡◌, refl, sym, ◌∙◌}
use mathlib.Core.Bool.{Bool, true, false, cond, ◌&&◌, ◌||◌}
use Prim.Native.Nat.{ℕ, ◌≤◌}
use native.Mathlib.Omega.{arith}
use lib.Dec.{leb}
use borrow.Author.Tests.{leb-true, le-leb}
use Rattle.calculus.specs.Number.{within}

-- a case on a test that keeps its equation
pub data Way (b : Bool) : Type 0 where
  is : b ≡ true → Way b
  isnt : b ≡ false → Way b

pub way : (b : Bool) → Way b
way true = is refl
way false = isnt refl

-- what holds of both sides of a choice holds of the choice
pub either : {A : Type 0} (P : A → Type 0) (b : Bool) {x y : A} → (b ≡ true → P x) → (b ≡ false → P y) → P (cond b x y)
either P true f g = f refl
either P false f g = g refl

-- what a call ensures of its result, joined with what is known of that result
pub join : {A : Type 0} {a b t : A} → a ≡ b → a ≡ t → b ≡ t
join e f = sym e ∙ f

-- two constructors are not equal: what `cc` shows of them proves anything
pub clash : {A : Type 0} → ◌≡◌ {A = ℕ} 0 1 → A
clash z = absurd (omega arith)

pub never : {A : Type 0} → false ≡ true → A
never e = clash cc

pub not_so : (b : Bool) → (b ≡ true → ⊥) → b ≡ false
not_so true h = absurd (h refl)
not_so false h = refl

-- both sides of a conjunction
pub both : (a b : Bool) → (a && b) ≡ true → (a ≡ true) × (b ≡ true)
both true b e = (refl, e)
both false b e = never e

-- neither side of a disjunction
pub neither : (a b : Bool) → (a || b) ≡ false → (a ≡ false) × (b ≡ false)
neither true b e = never (sym e)
neither false b e = (refl, e)

pub bounds_within : (low high n : ℕ) → low ≤ n → n ≤ high → within low high n ≡ true
bounds_within low high n h g = rw (le-leb low n h, le-leb n high g)

pub within_bounds : (low high n : ℕ) → within low high n ≡ true → (low ≤ n) × (n ≤ high)
within_bounds low high n e =
    let h = both (leb low n) (leb n high) e in
    (leb-true low n h.0, leb-true n high h.1)
