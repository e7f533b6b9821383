-- A line read as a form, as a definition that computes. What it reads is stated in Exact. Assumes nothing.
use Rattle.std.specs.Prelude.{ℕ, zero, suc, ◌+◌, ◌-◌, ◌*◌, Bool, true, false, cond, ◌&&◌, List, [], ◌∷◌, Some, None, ltb, leb, eqb, length, get_or, drop}
use Rattle.std.specs.Prelude as std
use Rattle.std.proofs.Math.Option.{Option, none, some}
use Rattle.calculus.specs.declared.network.Kind.{Kind}
use Rattle.calculus.specs.declared.network.Kind.TheVariants.{Host, Gateway}
use Rattle.forms.specs.Bytes.{bytes}
use Rattle.forms.specs.Text.{Form, node, route, «open», step, send, close, show, net, take_down}

-- l begins with w
unfoldable pub starts : List ℕ → List ℕ → Bool
starts [] l = true
starts (a ∷ w) [] = false
starts (a ∷ w) (c ∷ l) = eqb a c && starts w l

-- c is a decimal digit
abbrev pub is_digit : ℕ → Bool
is_digit c = leb 48 c && leb c 57

-- the rest of a number of at most `most` digits, of which k are read, with the value v
unfoldable pub scan : ℕ → ℕ → ℕ → List ℕ → std.Option (ℕ × ℕ)
scan most v k [] = Some (v, k)
scan most v k (c ∷ l) =
    let more = scan most (v * 10 + (c - 48)) (k + 1) l in
    cond (is_digit c) (cond (ltb k most) more None) (Some (v, k))

-- the number of at most `most` digits at the front of l, and its digits' count: 0 alone, or a first digit that is not 0
unfoldable pub number : ℕ → List ℕ → std.Option (ℕ × ℕ)
number most [] = None
number most (c ∷ l) = cond (eqb c 48) (Some (0, 1)) (cond (is_digit c) (scan most (c - 48) 1 l) None)

-- the numbers of a list, and the place behind its bracket
pub data Listed : Type 0 where
  listed : List ℕ → ℕ → Listed
  broken : Listed

abbrev pub push : ℕ → Listed → Listed
push n (listed ns k) = listed (n ∷ ns) k
push n broken = broken

-- n stands behind the space at place k, and the list goes on behind it
abbrev pub list_from : (ℕ → List ℕ → Listed) → ℕ → List ℕ → std.Option (ℕ × ℕ) → Listed
list_from list k l (Some (n, j)) = push n (list (k + j) (drop j l))
list_from list k l None = broken

-- at most `room` numbers of at most `most` digits, l standing at place k: each behind a space, then a closing bracket
unfoldable pub list : ℕ → ℕ → ℕ → List ℕ → Listed
list most zero k l = cond (starts (bytes ")") l) (listed [] (k + 1)) broken
list most (suc room) k l =
    let more = list_from (list most room) (k + 1) (drop 1 l) (number most (drop 1 l)) in
    cond (starts (bytes ")") l) (listed [] (k + 1)) (cond (starts (bytes " ") l) more broken)

-- the numbers of a list that ends with l, where there are n
abbrev pub whole_of : ℕ → List ℕ → Listed → Option (List ℕ)
whole_of n l (listed ns k) = cond (eqb (length ns) n && eqb k (length l)) (some ns) none
whole_of n l broken = none

-- exactly n numbers, of at most three, to the end of l
unfoldable pub fields : ℕ → ℕ → List ℕ → Option (List ℕ)
fields most n l = whole_of n l (list most 3 0 l)

-- the form of the numbers that were read
abbrev pub form_with : (List ℕ → Form) → Option (List ℕ) → Option Form
form_with f (some ns) = some (f ns)
form_with f none = none

-- each form, with its numbers
abbrev pub route_with : List ℕ → Form
route_with ns = route (get_or ns 0 0) (get_or ns 1 0) (get_or ns 2 0)

abbrev pub open_with : List ℕ → Form
open_with ns = «open» (get_or ns 0 0) (get_or ns 1 0) (get_or ns 2 0)

abbrev pub step_with : List ℕ → Form
step_with ns = step (get_or ns 0 0) (get_or ns 1 0)

abbrev pub send_with : List ℕ → Form
send_with ns = send (get_or ns 0 0) (get_or ns 1 0) (get_or ns 2 0)

abbrev pub close_with : List ℕ → Form
close_with ns = close (get_or ns 0 0)

abbrev pub show_with : List ℕ → Form
show_with ns = show

abbrev pub net_with : List ℕ → Form
net_with ns = net

abbrev pub take_down_with : List ℕ → Form
take_down_with ns = take_down (get_or ns 0 0) (get_or ns 1 0)

-- l is w
abbrev pub is_text : List ℕ → List ℕ → Bool
is_text w l = starts w l && eqb (length l) (length w)

-- a node's form from behind its `(needs`, by the list there
abbrev pub needs_of : ℕ → Kind → List ℕ → List ℕ → Listed → Option Form
needs_of a k has l (listed needs j) = cond (is_text (bytes ")") (drop j l)) (some (node a k has needs)) none
needs_of a k has l broken = none

-- a node's form from behind its `(has`, by the list there
abbrev pub has_of : ℕ → ℕ → ℕ → Kind → List ℕ → Listed → Option Form
has_of most room a k l (listed has j) =
    let r = drop 7 (drop j l) in
    cond (starts (bytes " (needs") (drop j l)) (needs_of a k has r (list most room 0 r)) none
has_of most room a k l broken = none

-- a node's form from behind its `(has`
unfoldable pub has_at : ℕ → ℕ → ℕ → Kind → List ℕ → Option Form
has_at most room a k l = has_of most room a k l (list most room 0 l)

-- a node's form from behind its number
unfoldable pub kind_at : ℕ → ℕ → ℕ → List ℕ → Option Form
kind_at most room a l =
    cond (starts (bytes " host (has") l) (has_at most room a Host (drop 10 l))
    (cond (starts (bytes " gate (has") l) (has_at most room a Gateway (drop 10 l)) none)

-- a node's form from behind its `(node `, by the number there
abbrev pub node_of : ℕ → ℕ → List ℕ → std.Option (ℕ × ℕ) → Option Form
node_of most room l (Some (a, k)) = kind_at most room a (drop k l)
node_of most room l None = none

-- a node's form from behind its `(node `
unfoldable pub node_at : ℕ → ℕ → List ℕ → Option Form
node_at most room l = node_of most room l (number most l)

-- a form other than a node's
unfoldable pub plain_form : ℕ → List ℕ → Option Form
plain_form most l =
    cond (starts (bytes "(route") l) (form_with route_with (fields most 3 (drop 6 l)))
    (cond (starts (bytes "(open") l) (form_with open_with (fields most 3 (drop 5 l)))
    (cond (starts (bytes "(step") l) (form_with step_with (fields most 2 (drop 5 l)))
    (cond (starts (bytes "(send") l) (form_with send_with (fields most 3 (drop 5 l)))
    (cond (starts (bytes "(close") l) (form_with close_with (fields most 1 (drop 6 l)))
    (cond (starts (bytes "(show") l) (form_with show_with (fields most 0 (drop 5 l)))
    (cond (starts (bytes "(net") l) (form_with net_with (fields most 0 (drop 4 l)))
    (cond (starts (bytes "(drop") l) (form_with take_down_with (fields most 2 (drop 5 l))) none)))))))

-- the form that l is, with numbers of at most `most` digits and lists of at most `room` credentials
unfoldable pub form_of : ℕ → ℕ → List ℕ → Option Form
form_of most room l = cond (starts (bytes "(node ") l) (node_at most room (drop 6 l)) (plain_form most l)

-- a line of at most 400 bytes, read; 400 bytes hold fewer than 200 credentials
unfoldable pub read : List ℕ → Option Form
read l = cond (leb (length l) 400) (form_of 10 200 l) none
