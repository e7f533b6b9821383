-- The ways by which a reader comes to its result. Assumes nothing.
use mathlib.Core.Path.{◌≡◌, refl}
use mathlib.Core.Bool.{Bool, true, false, cond}
use mathlib.Core.List.{List}
use mathlib.Core.Option.{none, some}
use Prim.Native.Nat.{ℕ}
use Rattle.calculus.proofs.Tests.{clash}
use Rattle.std.specs.Prelude.{Option, Some, None}
use Rattle.forms.specs.Read.{Listed, listed, broken}

module _ {R P : Type 0} {r : R} where
  pub cond_way : (b : Bool) (x y : R) → (b ≡ true → x ≡ r → P) → (b ≡ false → y ≡ r → P) → cond b x y ≡ r → P
  cond_way true x y f g e = f refl e
  cond_way false x y f g e = g refl e

  pub number_way : (read : Option (ℕ × ℕ) → R) (m : Option (ℕ × ℕ)) → (read None ≡ r → P)
      → ((n j : ℕ) → m ≡ Some (n, j) → read (Some (n, j)) ≡ r → P) → read m ≡ r → P
  number_way read None f g e = f e
  number_way read (Some (n, j)) f g e = g n j refl e

  pub list_way : (read : Listed → R) (m : Listed) → (read broken ≡ r → P)
      → ((ns : List ℕ) (j : ℕ) → m ≡ listed ns j → read (listed ns j) ≡ r → P) → read m ≡ r → P
  list_way read broken f g e = f e
  list_way read (listed ns j) f g e = g ns j refl e

-- what holds of a result holds of the same result
pub some_same : {A : Type 0} (P : A → Type 0) {a b : A} → P a → some a ≡ some b → P b
some_same P {a} {b} h e = let q : a ≡ b = cc in rw (← q) h

-- a result is not the lack of one
pub nothing : {A P : Type 0} {a : A} → none ≡ some a → P
nothing e = clash cc

pub missing : {P : Type 0} {n j : ℕ} → ◌≡◌ {A = Option (ℕ × ℕ)} None (Some (n, j)) → P
missing e = clash cc

pub unlisted : {P : Type 0} {ns : List ℕ} {j : ℕ} → broken ≡ listed ns j → P
unlisted e = clash cc
