-- That a set covers another is told place by place. Assumes nothing.
use Rattle.std.proofs.Common.{◌≡◌, refl, ap, Bool, not, List, [], ◌∷◌, arith, length, ◌||◌, ◌&&◌}
use Rattle.std.specs.List.{list_all, zip}
use Rattle.model.specs.Network.{covers}

pub covers_zip : (has needs : List Bool) → length has ≡ length needs → covers has needs ≡ list_all (λ p. p.0 || not p.1) (zip has needs)
unfolding covers
covers_zip [] [] e = refl
covers_zip (h ∷ has) [] e = refl
covers_zip [] (n ∷ needs) e = absurd (omega arith)
covers_zip (h ∷ has) (n ∷ needs) e = ap (λ b. (h || not n) && b) (covers_zip has needs (omega arith))
