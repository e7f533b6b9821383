-- The lines of forms, split again: no form's text has a newline. Assumes nothing.
use mathlib.Core.Path.{◌≡◌, refl, ap, ◌∙◌}
use mathlib.Core.Bool.{Bool, true, not, ◌&&◌}
use mathlib.Core.List.{List, [], ◌∷◌, ◌++◌, map, append-nil, append_assoc}
use Prim.Native.Nat.{ℕ, zero, suc, ◌+◌, ◌/◌, ◌%◌}
use native.Mathlib.Omega.{arith}
use borrow.Author.Tests.{ne_eqb, not-true}
use lib.Dec.{eqb, ltb}
use lib.ListN.{length, length-append}
use Rattle.calculus.proofs.Tests.{both, either}
use Rattle.calculus.specs.declared.network.Kind.{Kind}
use Rattle.calculus.specs.declared.network.Kind.TheVariants.{Host, Gateway}
use Rattle.forms.specs.Bytes.{bytes, decimal, digits_of, joined}
use Rattle.forms.specs.Text.{Form, node, route, «open», step, send, close, show, net, take_down, list_text, kind_text, text, form_line}
use Rattle.forms.specs.Line.{line_length, lines, with_first}

-- no byte of l is a newline
abbrev is_one_line : List ℕ → Bool
is_one_line [] = true
is_one_line (c ∷ l) = not (eqb c 10) && is_one_line l

one_line_append : (l m : List ℕ) → is_one_line l ≡ true → is_one_line m ≡ true → is_one_line (l ++ m) ≡ true
one_line_append [] m h g = g
one_line_append (c ∷ l) m h g =
    let k = both (not (eqb c 10)) (is_one_line l) h in
    rw k.0 (one_line_append l m k.1 g)

digit_line : (d : ℕ) → is_one_line ((48 + d) ∷ []) ≡ true
digit_line d = rw (ne_eqb (48 + d) 10 (λ e. omega arith))

digits_line : (k n : ℕ) → is_one_line (digits_of k n) ≡ true
unfolding digits_of
digits_line zero n = digit_line n
digits_line (suc k) n =
    either (λ (l : List ℕ). is_one_line l ≡ true) (ltb n 10) (λ e. digit_line n)
    (λ e. one_line_append (digits_of k (n / 10)) _ (digits_line k (n / 10)) (digit_line (n % 10)))

decimal_line : (n : ℕ) → is_one_line (decimal n) ≡ true
unfolding decimal
decimal_line n = digits_line n n

list_line : (ns : List ℕ) → is_one_line (list_text ns) ≡ true
unfolding list_text
list_line [] = refl
list_line (n ∷ ns) = one_line_append (decimal n) (list_text ns) (decimal_line n) (list_line ns)

kind_line : (k : Kind) (l : List ℕ) → is_one_line l ≡ true → is_one_line (kind_text k ++ l) ≡ true
kind_line Host l h = h
kind_line Gateway l h = h

text_line : (f : Form) → is_one_line (text f) ≡ true
unfolding text
text_line (node a k has needs) =
    one_line_append (decimal a) _ (decimal_line a)
    (kind_line k _ (one_line_append (list_text has) _ (list_line has) (one_line_append (list_text needs) _ (list_line needs) refl)))
text_line (route a b n) = list_line (a ∷ b ∷ n ∷ [])
text_line («open» u c d) = list_line (u ∷ c ∷ d ∷ [])
text_line (step u k) = list_line (u ∷ k ∷ [])
text_line (send u w t) = list_line (u ∷ w ∷ t ∷ [])
text_line (close u) = list_line (u ∷ [])
text_line show = list_line []
text_line net = list_line []
text_line (take_down u e) = list_line (u ∷ e ∷ [])

-- ---- lines

first_line : (l r : List ℕ) → is_one_line l ≡ true → lines (l ++ 10 ∷ r) ≡ l ∷ lines r
unfolding lines
first_line [] r h = refl
first_line (c ∷ l) r h =
    let k = both (not (eqb c 10)) (is_one_line l) h in
    rw (not-true (eqb c 10) k.0) (ap (with_first c) (first_line l r k.1))

pub lines_forms_append : (fs : List Form) (more : List ℕ) → lines (joined (map form_line fs) ++ more) ≡ map text fs ++ lines more
lines_forms_append [] more = refl
lines_forms_append (f ∷ fs) more =
    let rest = joined (map form_line fs) in
    ap lines (append_assoc (form_line f) rest more ∙ append_assoc (text f) (bytes "\n") (rest ++ more)) ∙ first_line (text f) (rest ++ more) (text_line f)
    ∙ ap (λ (x : List (List ℕ)). text f ∷ x) (lines_forms_append fs more)

pub lines_forms : (fs : List Form) → lines (joined (map form_line fs)) ≡ map text fs
unfolding lines
lines_forms fs = rw (append-nil (joined (map form_line fs)), append-nil (map text fs)) at (lines_forms_append fs [])

-- ---- how long the first line is

line_stops : (l r : List ℕ) → is_one_line l ≡ true → line_length (l ++ 10 ∷ r) ≡ length l
unfolding line_length
line_stops [] r h = refl
line_stops (c ∷ l) r h =
    let k = both (not (eqb c 10)) (is_one_line l) h in
    rw (not-true (eqb c 10) k.0) (ap suc (line_stops l r k.1))

-- whatever follows a form's line, its newline is its last byte
pub form_line_length : (f : Form) (rest : List ℕ) → line_length (form_line f ++ rest) + 1 ≡ length (form_line f)
form_line_length f rest =
    rw (append_assoc (text f) (bytes "\n") rest, line_stops (text f) rest (text_line f), length-append (text f) (bytes "\n"))
