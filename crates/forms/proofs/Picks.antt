-- A form is picked by the word that its line begins with. Assumes nothing.
use mathlib.Core.Path.{◌≡◌, refl, ◌∙◌}
use mathlib.Core.Bool.{Bool, true, false, cond}
use mathlib.Core.List.{List}
use mathlib.Core.Option.{Option}
use Prim.Native.Nat.{ℕ, ◌-◌, ◌≤◌}
use lib.ListN.{length, take, drop}
use Rattle.std.specs.Prelude.{Ok}
use Rattle.calculus.proofs.Tests.{join}
use Rattle.calculus.specs.declared.request.Request.{Request}
use Rattle.forms.specs.Text.{Form}
use Rattle.forms.specs.Read.{starts, fields, form_with}
use Rattle.forms.specs.Request.{Asked, reading, asked}
use Rattle.forms.specs.Held.{bare_asked}
use Rattle.forms.proofs.Held.{bare_form}
use Rattle.forms.proofs.Words.{starts_inside}
use Rattle.forms.proofs.Parts.{rest}

-- what the whole reading of a line comes to, once some words are not there
pub record Left : Type 0 where
  pub line : List ℕ
  pub whole : Option Form
  pub left : Option Form
  pub same : whole ≡ left

abbrev pub first : (List ℕ → Option Form) → List ℕ → Left
first read l = record { line = l; whole = read l; left = read l; same = refl }

-- the word is not there
abbrev pub skip : {b t : Bool} (p : Left) (x y : Option Form) → p.left ≡ cond t x y → b ≡ t → b ≡ false → Left
skip p x y q e n = record { line = p.line; whole = p.whole; left = y; same = p.same ∙ q ∙ rw (join e n) }

-- the word, of k bytes, is there, and `read` reads what stands behind it
pub pick : {b t : Bool} {r : Asked} (read : List ℕ → Option Form) (k : ℕ) (p : Left) (y : Option Form)
    → p.left ≡ cond t (read (drop k p.line)) y → b ≡ t → b ≡ true
    → r ≡ asked (read (take (length p.line - k) (drop k p.line))) → r ≡ asked p.whole
pick read k p y q e n h = h ∙ rest (λ m. asked (read m)) k p.line ∙ rw (p.same, q, join e n)

-- the word of a form that has no numbers
pub pick_bare : {b t : Bool} {r : Asked} (form : List ℕ → Form) (a : Request) → ((ns : List ℕ) → reading (form ns) ≡ Ok a) → (k : ℕ) (p : Left)
    (y : Option Form) → p.left ≡ cond t (form_with form (fields 10 0 (drop k p.line))) y → b ≡ t → b ≡ true
    → r ≡ bare_asked a (fields 10 0 (take (length p.line - k) (drop k p.line))) → r ≡ asked p.whole
pick_bare form a w k p y q e n h =
    pick (λ l. form_with form (fields 10 0 l)) k p y q e n (h ∙ bare_form form a w (fields 10 0 (take (length p.line - k) (drop k p.line))))

pub inside : (w l : List ℕ) {b : Bool} → b ≡ starts w l → b ≡ true → length w ≤ length l
inside w l e n = starts_inside w l (join e n)
