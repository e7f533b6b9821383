-- The forms of a network's text are read again, and so are a step's and those that ask for a report. Assumes nothing.
use mathlib.Core.Path.{◌≡◌, refl}
use mathlib.Core.Bool.{Bool}
use mathlib.Core.List.{List}
use mathlib.Core.Option.{some}
use Prim.Native.Nat.{ℕ, ◌≤◌}
use native.Mathlib.Omega.{arith}
use lib.ListN.{length, length-append}
use Rattle.calculus.specs.declared.network.Kind.{Kind}
use Rattle.forms.specs.Text.{route, step, show, net, list_text, text}
use Rattle.forms.specs.Request.{credentials_from, node_of}
use Rattle.forms.specs.Read.{read}
use Rattle.forms.proofs.Decimal.{width_most}
use Rattle.forms.proofs.Lists.{digits_join}
use Rattle.forms.proofs.Exact.{reads_exactly}
use Rattle.forms.proofs.Credentials.{credentials_digits}
use Rattle.forms.proofs.LineWidths.{node_width, route_width}

pub node_read : (a : ℕ) (k : Kind) (has needs : List Bool) → a ≤ 32 → length has ≡ 64 → length needs ≡ 64
    → let f = node_of a k has needs in read (text f) ≡ some f
node_read a k has needs h g j =
    let f = node_of a k has needs in
    let d = width_most 1 a (omega arith) in
    let w = node_width a k has needs g j in
    (reads_exactly.exact (text f) f).1
    (record {
      written = refl;
      short = omega arith;
      digits = (
        omega arith,
        digits_join 10 (credentials_from 0 has) (credentials_from 0 needs) (credentials_digits has g) (credentials_digits needs j),
      );
    })

pub route_read : (a b next : ℕ) → a ≤ 32 → b ≤ 32 → next ≤ 32 → read (text (route a b next)) ≡ some (route a b next)
route_read a b next h g j =
    let d = width_most 1 a (omega arith) in
    let e = width_most 1 b (omega arith) in
    let f = width_most 1 next (omega arith) in
    let w = route_width a b next in
    (reads_exactly.exact (text (route a b next)) (route a b next)).1
    (record { written = refl; short = omega arith; digits = (omega arith, (omega arith, (omega arith, tt))) })

pub step_read : (u k : ℕ) → u ≤ 8 → k ≤ 1000000 → read (text (step u k)) ≡ some (step u k)
unfolding text list_text
step_read u k h g =
    let d = width_most 9 u (omega arith) in
    let e = width_most 9 k (omega arith) in
    (reads_exactly.exact (text (step u k)) (step u k)).1 (record { written = refl; short = simp length-append (omega arith); digits = (d, (e, tt)) })

pub net_read : read (text net) ≡ some net
unfolding text list_text
net_read = (reads_exactly.exact (text net) net).1 (record { written = refl; short = omega arith; digits = tt })

pub show_read : read (text show) ≡ some show
unfolding text list_text
show_read = (reads_exactly.exact (text show) show).1 (record { written = refl; short = omega arith; digits = tt })
