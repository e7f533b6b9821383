-- Words and numbers as bytes, for forms and answers alike. Assumes nothing.
use Rattle.std.specs.Prelude.{ℕ, zero, suc, ◌+◌, ◌/◌, ◌%◌, cond, ltb}
use Prim.Native.Char.{code}
use Prim.Native.String as string
use Prim.Native.String.{String}
use mathlib.Core.List.{List, [], ◌∷◌, ◌++◌, foldr}

-- the bytes of a text in ASCII
abbrev pub bytes : String → List ℕ
bytes string.[] = []
bytes (string.◌∷◌ c s) = code c ∷ bytes s

-- the decimal digits of n, of which there are at most k + 1
unfoldable pub digits_of : ℕ → ℕ → List ℕ
digits_of zero n = (48 + n) ∷ []
digits_of (suc k) n =
    let more = digits_of k (n / 10) ++ ((48 + n % 10) ∷ []) in
    cond (ltb n 10) ((48 + n) ∷ []) more

-- "numbers in decimal", with no leading zero but 0 itself
unfoldable pub decimal : ℕ → List ℕ
decimal n = digits_of n n

-- the pieces one after the other
abbrev pub joined : List (List ℕ) → List ℕ
joined = foldr ◌++◌ []
