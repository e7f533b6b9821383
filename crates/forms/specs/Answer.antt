-- The line of each answer, and the lines of show's report. `answers` and `model` cite it. Assumes nothing.
use Rattle.std.specs.Prelude.{ℕ, Bool, true, false, List, [], ◌∷◌, ◌++◌, Result, Ok, Err}
use Rattle.calculus.specs.Answer.{refusal_number, loss_number}
use Rattle.calculus.specs.declared.answer.Answer as answer
use Rattle.calculus.specs.declared.answer.Refusal as refusal
use Rattle.calculus.specs.declared.answer.Answer.TheVariants.{Made, MadeByDefault, MadeTwo, Lost, Denied, Opened, Delivered, Closed}
use Rattle.calculus.specs.declared.answer.ShownAssociation.{ShownAssociation}
use Rattle.forms.specs.Bytes.{bytes, decimal, joined}
use Rattle.forms.specs.Text.{list_text}

-- a word, its numbers and a newline
abbrev pub line_text : List ℕ → List ℕ → List ℕ
line_text word ns = word ++ (list_text ns ++ bytes "\n")

-- "(made 5 default)", with its newline
abbrev pub made_by_default_line : ℕ → List ℕ
made_by_default_line n = joined (bytes "(made " ∷ decimal n ∷ bytes " default)\n" ∷ [])

-- the line of an answer, or of a refusal, with its newline
unfoldable pub answer_text : Result answer.Answer refusal.Refusal → List ℕ
answer_text (Ok answer.Answer.Ok) = bytes "(ok)\n"
answer_text (Ok (Made n)) = line_text (bytes "(made") (n.0 ∷ [])
answer_text (Ok (MadeByDefault n)) = made_by_default_line n.0
answer_text (Ok (MadeTwo n m)) = line_text (bytes "(made") (n.0 ∷ m.0 ∷ [])
answer_text (Ok (Lost l)) = line_text (bytes "(lost") (loss_number l ∷ [])
answer_text (Ok Denied) = bytes "(denied)\n"
answer_text (Ok Opened) = bytes "(opened)\n"
answer_text (Ok (Delivered t)) = line_text (bytes "(delivered") (t ∷ [])
answer_text (Ok Closed) = bytes "(closed)\n"
answer_text (Err r) = line_text (bytes "(no") (refusal_number r ∷ [])

-- an association's direction: out, or in
abbrev pub direction_text : Bool → List ℕ
direction_text true = bytes " out"
direction_text false = bytes " in"

-- an association's line, with its newline
unfoldable pub association_line : ShownAssociation → List ℕ
association_line x =
    joined (bytes "(assoc " ∷ decimal x.node ∷ direction_text x.out ∷ line_text [] (x.peer ∷ x.spi.0 ∷ x.users ∷ []) ∷ [])

-- the last line of show's report
abbrev pub end_line : List ℕ
end_line = bytes "(end)\n"
