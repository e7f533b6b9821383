-- By the first byte.
use Rattle.std.proofs.Common.{arith, ◌∙◌, get_or}
use borrow.Author.Tests.{ne_eqb}
use Rattle.calculus.proofs.Tests.{join}
use Rattle.forms.proofs.Loops.{number_empty, number_first}
use Rattle.forms.proofs.scan.read_number.Goals as goal

pub returns-then-s-eq0 : goal.returns-then-s-eq0
returns-then-s-eq0 c = number_empty 10 c.args.s.now c.if-s-eq0.true

pub returns-then-is_digit : goal.returns-then-is_digit
returns-then-is_digit c =
    c.number_after.ensures ∙ rw c.wide.ensures (rw (ne_eqb (get_or c.args.s.now 0 0) 48 (λ e. omega arith), join c.is_digit.ensures c.if-is_digit.true) at (number_first 10 c.args.s.now c.if-s-eq0.false))

pub returns-else-is_digit : goal.returns-else-is_digit
returns-else-is_digit c =
    rw (ne_eqb (get_or c.args.s.now 0 0) 48 (λ e. omega arith), join c.is_digit.ensures c.if-is_digit.false) at (number_first 10 c.args.s.now c.if-s-eq0.false)
