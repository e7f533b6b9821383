-- `behind` on a small input: behind a newline, at the end of the input and past it. Assumes nothing.
use mathlib.Core.Path.{◌≡◌, refl}
use mathlib.Core.List.{[], ◌∷◌, map}
use Rattle.forms.specs.Bytes.{bytes}
use Rattle.forms.specs.Line.{line_length}
use Rattle.lines.specs.Behind.{behind}

places : map (behind (bytes "ab\nc")) (0 ∷ 2 ∷ 3 ∷ 4 ∷ 9 ∷ []) ≡ 3 ∷ 3 ∷ 4 ∷ 4 ∷ 9 ∷ []
unfolding line_length
places = refl
