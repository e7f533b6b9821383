-- By the words before: none of them is there.
use Rattle.std.proofs.Common.{refl, ◌∙◌, ◌-◌, length, take, drop}
use Rattle.calculus.proofs.Tests.{join}
use Rattle.calculus.specs.declared.request.Request.TheVariants.{Show, Net}
use Rattle.forms.specs.Read.{fields, form_with, send_with, close_with, show_with, net_with, take_down_with, plain_form}
use Rattle.forms.specs.Request.{asked}
use Rattle.forms.proofs.Parts.{rest}
use Rattle.forms.proofs.Held.{bare_form}
use Rattle.forms.proofs.read.read_plain.Goals as goal

pub returns-then-starts-4 : goal.returns-then-starts-4
unfolding plain_form
returns-then-starts-4 c =
    c.send_at.ensures ∙ rest (λ l. asked (form_with send_with (fields 10 3 l))) 5 c.args.s.now ∙ rw (
      join c.starts.ensures c.if-starts.false,
      join c.starts-2.ensures c.if-starts-2.false,
      join c.starts-3.ensures c.if-starts-3.false,
      join c.starts-4.ensures c.if-starts-4.true,
    )

pub returns-then-starts-5 : goal.returns-then-starts-5
unfolding plain_form
returns-then-starts-5 c =
    c.close_at.ensures ∙ rest (λ l. asked (form_with close_with (fields 10 1 l))) 6 c.args.s.now ∙ rw (
      join c.starts.ensures c.if-starts.false,
      join c.starts-2.ensures c.if-starts-2.false,
      join c.starts-3.ensures c.if-starts-3.false,
      join c.starts-4.ensures c.if-starts-4.false,
      join c.starts-5.ensures c.if-starts-5.true,
    )

pub returns-then-starts-8 : goal.returns-then-starts-8
unfolding plain_form
returns-then-starts-8 c =
    c.drop_at.ensures ∙ rest (λ l. asked (form_with take_down_with (fields 10 2 l))) 5 c.args.s.now ∙ rw (
      join c.starts.ensures c.if-starts.false,
      join c.starts-2.ensures c.if-starts-2.false,
      join c.starts-3.ensures c.if-starts-3.false,
      join c.starts-4.ensures c.if-starts-4.false,
      join c.starts-5.ensures c.if-starts-5.false,
      join c.starts-6.ensures c.if-starts-6.false,
      join c.starts-7.ensures c.if-starts-7.false,
      join c.starts-8.ensures c.if-starts-8.true,
    )

pub returns-then-starts-6 : goal.returns-then-starts-6
unfolding plain_form
returns-then-starts-6 c =
    let s = c.args.s.now in
    c.bare_at.ensures ∙ bare_form show_with Show (λ ns. refl) (fields 10 0 (take (length s - 5) (drop 5 s))) ∙ rest (λ l. asked (form_with show_with (fields 10 0 l))) 5 s ∙ rw (
      join c.starts.ensures c.if-starts.false,
      join c.starts-2.ensures c.if-starts-2.false,
      join c.starts-3.ensures c.if-starts-3.false,
      join c.starts-4.ensures c.if-starts-4.false,
      join c.starts-5.ensures c.if-starts-5.false,
      join c.starts-6.ensures c.if-starts-6.true,
    )

pub returns-then-starts-7 : goal.returns-then-starts-7
unfolding plain_form
returns-then-starts-7 c =
    let s = c.args.s.now in
    c.bare_at-then-starts-7.ensures ∙ bare_form net_with Net (λ ns. refl) (fields 10 0 (take (length s - 4) (drop 4 s))) ∙ rest (λ l. asked (form_with net_with (fields 10 0 l))) 4 s ∙ rw (
      join c.starts.ensures c.if-starts.false,
      join c.starts-2.ensures c.if-starts-2.false,
      join c.starts-3.ensures c.if-starts-3.false,
      join c.starts-4.ensures c.if-starts-4.false,
      join c.starts-5.ensures c.if-starts-5.false,
      join c.starts-6.ensures c.if-starts-6.false,
      join c.starts-7.ensures c.if-starts-7.true,
    )
