-- The credentials of a set put one behind the other. Assumes nothing.
use mathlib.Core.Path.{◌≡◌}
use mathlib.Core.Bool.{Bool, true, false}
use mathlib.Core.List.{List, ◌++◌}
use Prim.Native.Nat.{ℕ, ◌+◌, ◌≤◌, ◌<◌}
use native.Mathlib.Numerals.{add-one, unary_clauses}
use lib.ListN.{length, get_or, drop, drop_of_length-le}
use lib.Seq.{drop-cons}
use Rattle.calculus.specs.Table.{entries_from}
use Rattle.forms.specs.Bytes.{bytes}
use Rattle.forms.specs.Text.{number_text, list_text}
use Rattle.forms.specs.Request.{credentials_from}
use Rattle.answers.specs.declared.put.Output.{Output}
use Rattle.answers.proofs.Sets.{Left}

-- the text of the credentials of s from i on
abbrev pub text_from : List Bool → ℕ → List ℕ
text_from s i = list_text (credentials_from i (drop i s))

module _ {s t : Output} {text : List ℕ} (held : List Bool) (i : ℕ) where
  -- the next one is held
  pub left_held : i < length held → get_or held i false ≡ true → Left s text t (text_from held i)
      → Left s text t (number_text i ++ text_from held (i + 1))
  unfolding entries_from list_text
  left_held h e = rw (add-one, drop-cons held i false h, e) (simp unary_clauses (λ x. x))

  -- or is not
  pub left_not_held : i < length held → get_or held i false ≡ false → Left s text t (text_from held i) → Left s text t (text_from held (i + 1))
  unfolding entries_from list_text
  left_not_held h e = rw (add-one, drop-cons held i false h, e) (simp unary_clauses (λ x. x))

  -- only the bracket is left
  pub left_end : length held ≤ i → Left s text t (text_from held i) → Left s text t (bytes ")")
  unfolding entries_from list_text
  left_end h x = rw (drop_of_length-le held h) at x
