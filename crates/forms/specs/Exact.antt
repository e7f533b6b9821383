-- What `read` reads: exactly the texts of forms. Proved in proofs/Exact. Assumes nothing.
use Rattle.std.specs.Prelude.{ℕ, ◌≤◌, ◌≡◌, ◌↔◌, List, [], ◌∷◌, length}
use Rattle.std.proofs.Math.Option.{some}
use Rattle.forms.specs.Bytes.{decimal}
use Rattle.forms.specs.Text.{Form, text, numbers}
use Rattle.forms.specs.Read.{read}

-- each number of ns has at most `most` digits
abbrev pub Digits : ℕ → List ℕ → Type 0
Digits most [] = Unit
Digits most (n ∷ ns) = (length (decimal n) ≤ most) × Digits most ns

-- the line l is the form f as document 01's form language has it
pub record IsForm (l : List ℕ) (f : Form) : Type 0 where
  pub written : l ≡ text f
  pub short : length l ≤ 400
  pub digits : Digits 10 (numbers f)

pub record ReadsExactly : Type 0 where
  -- a line is read as f exactly where it is f
  pub exact : (l : List ℕ) (f : Form) → (read l ≡ some f) ↔ IsForm l f
  -- two forms never have one text
  pub injective : (f g : Form) → text f ≡ text g → f ≡ g
