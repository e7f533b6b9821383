-- `n` is written as `n / 10`, where that is not 0, and its last digit.
use Rattle.std.proofs.Common.{◌≡◌, refl, ℕ, ◌+◌, ◌/◌, ◌%◌, ◌≤◌, ◌<◌, List, set, arith}
use Rattle.forms.specs.Bytes.{decimal}
use Rattle.answers.specs.Put.{Put}
use Rattle.forms.proofs.Decimal.{decimal_small, decimal_large, width_large, width_some}
use Rattle.answers.proofs.Sets.{put_append}
use Rattle.answers.proofs.put.+put_number.Goals as goal

put_small : {l : List ℕ} {at n d : ℕ} → n < 10 → d ≡ 48 + n → Put l at (decimal n) (set l at d) (at + 1)
put_small h e = rw (decimal_small _ h, ← e) (record { place = omega arith; bytes = refl })

put_large : {l m : List ℕ} {at p n d : ℕ} → 10 ≤ n → Put l at (decimal (n / 10)) m p → d ≡ 48 + n % 10
    → Put l at (decimal n) (set m p d) (p + 1)
put_large h f e = rw (decimal_large _ h, ← e) (put_append f (record { place = omega arith; bytes = refl }))

pub bounds-out-at : goal.bounds-out-at
bounds-out-at t c = omega (arith, c.requires, width_some c.args.n)

pub returns-then-n-lt10 : goal.returns-then-n-lt10
returns-then-n-lt10 t c = put_small c.if-n-lt10.true (omega arith)

pub put_number-last-requires : goal.put_number-last-requires
put_number-last-requires t c =
    let w = width_large c.args.n c.if-n-lt10.false in
    (omega arith, omega (arith, c.requires))

pub bounds-out-last : goal.bounds-out-last
bounds-out-last t c =
    omega (arith, c.requires, width_large c.args.n c.if-n-lt10.false, c.put_number-last.ensures.place, c.put_number-last.auto.out)

pub overflow_add-result-2 : goal.overflow_add-result-2
overflow_add-result-2 t c =
    omega (arith, c.requires, width_large c.args.n c.if-n-lt10.false, c.put_number-last.ensures.place, c.put_number-last.auto.out)

pub returns : goal.returns
returns t c = put_large c.if-n-lt10.false c.put_number-last.ensures (omega arith)
