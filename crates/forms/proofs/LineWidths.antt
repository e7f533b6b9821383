-- How long the lines of reports are, by the digits of their numbers. Assumes nothing.
use mathlib.Core.Path.{◌≡◌, refl}
use mathlib.Core.Bool.{Bool, true, false}
use mathlib.Core.List.{List, [], ◌∷◌}
use Prim.Native.Nat.{ℕ, ◌+◌, ◌≤◌}
use native.Mathlib.Omega.{arith}
use lib.ListN.{length, length-append}
use Rattle.calculus.specs.declared.answer.ShownAssociation.{ShownAssociation}
use Rattle.calculus.specs.declared.network.Kind.{Kind}
use Rattle.calculus.specs.declared.network.Kind.TheVariants.{Host, Gateway}
use Rattle.forms.specs.Bytes.{decimal}
use Rattle.forms.specs.Text.{route, list_text, kind_text, text}
use Rattle.forms.specs.Request.{node_of}
use Rattle.forms.specs.Answer.{direction_text, association_line}
use Rattle.forms.proofs.Lists.{list_end, width_list}
use Rattle.forms.proofs.Credentials.{credentials_width}

kind_width : (k : Kind) → length (kind_text k) ≡ 5
kind_width Host = refl
kind_width Gateway = refl

direction_width : (out : Bool) → length (direction_text out) ≤ 4
direction_width true = omega arith
direction_width false = omega arith

three_width : (a b c : ℕ) → length (list_text (a ∷ b ∷ c ∷ [])) ≡ 4 + (length (decimal a) + (length (decimal b) + length (decimal c)))
three_width a b c = omega (arith, width_list a (b ∷ c ∷ []), width_list b (c ∷ []), width_list c [], list_end)

-- "(node .. host (has 0 .. 63) (needs 0 .. 63))"
pub node_width : (a : ℕ) (k : Kind) (has needs : List Bool) → length has ≡ 64 → length needs ≡ 64
    → length (text (node_of a k has needs)) ≤ 390 + length (decimal a)
unfolding text
node_width a k has needs h g = simp length-append (omega (arith, kind_width k, credentials_width has h, credentials_width needs g))

pub route_width : (a b next : ℕ) → length (text (route a b next)) ≡ 10 + (length (decimal a) + (length (decimal b) + length (decimal next)))
unfolding text
route_width a b next = omega (arith, three_width a b next)

-- "(assoc .. out .. .. ..)" and its newline
pub association_width : (x : ShownAssociation)
    → length (association_line x)
    ≤ 16 + (length (decimal x.node) + (length (decimal x.peer) + (length (decimal x.spi.0) + length (decimal x.users))))
unfolding association_line
association_width x = simp length-append (omega (arith, direction_width x.out, three_width x.peer x.spi.0 x.users))
