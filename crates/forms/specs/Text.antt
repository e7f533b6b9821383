-- The form language: its forms, and the one text of each. What `read` reads is stated by it alone (Exact). Assumes nothing.
use Rattle.std.specs.Prelude.{ℕ, List, [], ◌∷◌, ◌++◌}
use Rattle.calculus.specs.declared.network.Kind.{Kind}
use Rattle.calculus.specs.declared.network.Kind.TheVariants.{Host, Gateway}
use Rattle.forms.specs.Bytes.{bytes, decimal, joined}

-- a form, with its numbers as they are written, in range or not
pub data Form : Type 0 where
  node : ℕ → Kind → List ℕ → List ℕ → Form
  route : ℕ → ℕ → ℕ → Form
  «open» : ℕ → ℕ → ℕ → Form
  step : ℕ → ℕ → Form
  send : ℕ → ℕ → ℕ → Form
  close : ℕ → Form
  show : Form
  net : Form
  -- `(drop u e)`; `drop` is a library's name
  take_down : ℕ → ℕ → Form

-- a number behind a space
abbrev pub number_text : ℕ → List ℕ
number_text n = bytes " " ++ decimal n

-- " 1 4 2)": each number behind a space, then a closing bracket
unfoldable pub list_text : List ℕ → List ℕ
list_text [] = bytes ")"
list_text (n ∷ ns) = number_text n ++ list_text ns

-- a node's kind, behind its number
abbrev pub kind_text : Kind → List ℕ
kind_text Host = bytes " host"
kind_text Gateway = bytes " gate"

-- a form as it is written: "one space between parts, none elsewhere"
unfoldable pub text : Form → List ℕ
text (node a k has needs) =
    joined (bytes "(node " ∷ decimal a ∷ kind_text k ∷ bytes " (has" ∷ list_text has ∷ bytes " (needs" ∷ list_text needs ∷ bytes ")" ∷ [])
text (route a b n) = bytes "(route" ++ list_text (a ∷ b ∷ n ∷ [])
text («open» u c d) = bytes "(open" ++ list_text (u ∷ c ∷ d ∷ [])
text (step u k) = bytes "(step" ++ list_text (u ∷ k ∷ [])
text (send u w t) = bytes "(send" ++ list_text (u ∷ w ∷ t ∷ [])
text (close u) = bytes "(close" ++ list_text (u ∷ [])
text show = bytes "(show" ++ list_text []
text net = bytes "(net" ++ list_text []
text (take_down u e) = bytes "(drop" ++ list_text (u ∷ e ∷ [])

-- the numbers of a form
abbrev pub numbers : Form → List ℕ
numbers (node a k has needs) = a ∷ (has ++ needs)
numbers (route a b n) = a ∷ b ∷ n ∷ []
numbers («open» u c d) = u ∷ c ∷ d ∷ []
numbers (step u k) = u ∷ k ∷ []
numbers (send u w t) = u ∷ w ∷ t ∷ []
numbers (close u) = u ∷ []
numbers show = []
numbers net = []
numbers (take_down u e) = u ∷ e ∷ []

-- a form's line, with its newline
abbrev pub form_line : Form → List ℕ
form_line f = text f ++ bytes "\n"
