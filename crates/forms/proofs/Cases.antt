-- The definitions on document 01's examples and their near-misses. Assumes nothing.
use mathlib.Core.Path.{◌≡◌, refl}
use mathlib.Core.List.{List, [], ◌∷◌, map}
use Prim.Native.String.{String}
use lib.ListN.{replicate}
use mathlib.Core.Bool.{false}
use mathlib.Core.Option.{none, some}
use Rattle.std.specs.Prelude.{Some, None, Ok, Err}
use Rattle.calculus.specs.declared.answer.Answer.TheVariants.{Made, MadeByDefault, MadeTwo, Lost, Delivered}
use Rattle.calculus.specs.declared.answer.Answer.{Answer}
use Rattle.calculus.specs.declared.answer.Loss.TheVariants.{HopLimit}
use Rattle.calculus.specs.declared.answer.Refusal.TheVariants.{Waiting, Range, Busy, NoSuchTunnel}
use Rattle.calculus.specs.declared.network.Kind.TheVariants.{Host, Gateway}
use Rattle.calculus.specs.declared.request.Request.TheVariants.{Route, Step, Drop}
use Rattle.calculus.specs.Number.{spi}
use Rattle.forms.specs.Bytes.{bytes, decimal, digits_of}
use Rattle.forms.specs.Text.{Form, node, route, «open», step, send, close, show, net, take_down, list_text, text}
use Rattle.forms.specs.Read.{starts, scan, number, list, fields, has_at, kind_at, node_at, plain_form, form_of, read}
use Rattle.forms.specs.Request.{asked}
use Rattle.forms.specs.Answer.{answer_text, association_line}
use Rattle.forms.specs.Line.{line_length, next_line, lines}

-- ---- lines that are forms, and lines that are none

abbrev texts : List String
texts =
    "(node 1 host (has 0 5) (needs))" ∷ "(node 2 gate (has) (needs 5 0))" ∷ "(route 1 4 2)" ∷ "(open 1 1 4)" ∷ "(step 1 3)"
    ∷ "(send 1 0 77)" ∷ "(close 9999999999)" ∷ "(show)" ∷ "(net)" ∷ "(drop 1 2)" ∷ []

abbrev forms : List Form
forms =
    node 1 Host (0 ∷ 5 ∷ []) [] ∷ node 2 Gateway [] (5 ∷ 0 ∷ []) ∷ route 1 4 2 ∷ «open» 1 1 4 ∷ step 1 3
    ∷ send 1 0 77 ∷ close 9999999999 ∷ show ∷ net ∷ take_down 1 2 ∷ []

forms_written : map text forms ≡ map bytes texts
unfolding text list_text decimal digits_of
forms_written = refl

forms_read : map (λ s. read (bytes s)) texts ≡ map some forms
unfolding read form_of plain_form node_at kind_at has_at fields list number scan starts
forms_read = refl

near_misses : map (λ s. read (bytes s)) ("" ∷ "(close 01)" ∷ "(close 10000000000)" ∷ "(step 1  3)" ∷ "(step 1 3) " ∷ "(step 1)" ∷ "(show 1)" ∷ "(net )" ∷ "(drop 1)" ∷ "(drop 1 2 3)" ∷ "(node 1 host (has ) (needs))" ∷ [])
    ≡ replicate 11 none
unfolding read form_of plain_form node_at kind_at has_at fields list number scan starts
near_misses = refl

-- ---- in range, and out of range

in_range_lem : map (λ f. asked (some f)) (step 8 1000000 ∷ route 2 0 3 ∷ take_down 8 8 ∷ take_down 1 1 ∷ [])
    ≡ Ok (Step (record { 0 = 8 }) (record { 0 = 1000000 })) ∷ Ok (Route 2 0 3) ∷ Ok (Drop (record { 0 = 8 }) 8) ∷ Ok (Drop (record { 0 = 1 }) 1) ∷ []
in_range_lem = refl

out_of_range : map (λ f. asked (some f)) (step 9 1 ∷ step 1 0 ∷ step 1 1000001 ∷ send 1 2 0 ∷ take_down 0 1 ∷ take_down 9 1 ∷ take_down 1 0 ∷ take_down 1 9 ∷ node 33 Host [] [] ∷ node 1 Host (5 ∷ 5 ∷ []) [] ∷ [])
    ≡ replicate 10 (Err Range)
out_of_range = refl

-- 0 is no node's, and a destination in a route alone
no_node_0 : map (λ f. asked (some f)) (node 0 Host [] [] ∷ route 0 1 2 ∷ route 1 2 0 ∷ «open» 1 0 2 ∷ «open» 1 2 0 ∷ [])
    ≡ replicate 5 (Err Range)
no_node_0 = refl

-- ---- answers

answers : map answer_text (Ok Answer.Ok ∷ Ok (Made (record { 0 = 3 })) ∷ Ok (MadeByDefault (record { 0 = 5 })) ∷ Ok (MadeTwo (record { 0 = 3 }) (record { 0 = 4 })) ∷ Ok (Lost HopLimit) ∷ Ok (Delivered 77) ∷ Err Waiting ∷ Err Busy ∷ Err NoSuchTunnel ∷ [])
    ≡ map bytes ("(ok)\n" ∷ "(made 3)\n" ∷ "(made 5 default)\n" ∷ "(made 3 4)\n" ∷ "(lost 2)\n" ∷ "(delivered 77)\n" ∷ "(no 12)\n" ∷ "(no 16)\n" ∷ "(no 17)\n" ∷ [])
unfolding answer_text list_text decimal digits_of
answers = refl

association : association_line (record { node = 1; out = false; peer = 2; spi = spi 1 2; users = 1 }) ≡ bytes "(assoc 1 in 2 257 1)\n"
unfolding association_line list_text decimal digits_of
association = refl

-- ---- lines

lines_split : map (λ s. lines (bytes s)) ("" ∷ "a\nb" ∷ "a\n\n" ∷ [])
    ≡ [] ∷ (bytes "a" ∷ bytes "b" ∷ []) ∷ (bytes "a" ∷ bytes "" ∷ []) ∷ []
unfolding lines
lines_split = refl

line_places : map (next_line (bytes "ab\nc")) (0 ∷ 3 ∷ 4 ∷ [])
    ≡ Some (record { stop = 2; next = 3 }) ∷ Some (record { stop = 4; next = 4 }) ∷ None ∷ []
unfolding line_length
line_places = refl
