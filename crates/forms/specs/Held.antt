-- How the reader's private functions hold what Read and Request define. No public contract cites it. Assumes nothing.
use Rattle.std.specs.Prelude.{ℕ, ◌+◌, ◌≤◌, ◌≡◌, Bool, true, false, cond, ◌&&◌, List, [], ◌∷◌, Some, None, Result, Ok, Err, length, get_or, take, drop, set}
use Rattle.std.specs.Prelude as std
use Rattle.std.proofs.Math.Option.{Option, none, some}
use Rattle.calculus.specs.Number.{is_node}
use Rattle.calculus.specs.declared.answer.Refusal.{Refusal}
use Rattle.calculus.specs.declared.answer.Refusal.TheVariants.{Unreadable, Range}
use Rattle.calculus.specs.declared.network.Kind.{Kind}
use Rattle.calculus.specs.declared.request.Request.{Request}
use Rattle.calculus.specs.declared.request.Request.TheVariants.{Node}
use Rattle.forms.specs.declared.node.Credentials.{Credentials}
use Rattle.forms.specs.declared.list.Part.{Part}
use Rattle.forms.specs.declared.list.Part.TheVariants.{Number, Close}
use Rattle.forms.specs.declared.list.ListRead.{ListRead}
use Rattle.forms.specs.Bytes.{bytes}
use Rattle.forms.specs.Read.{starts, number, list, Listed, listed, broken, is_text}
use Rattle.forms.specs.Request.{rising, holding, no_credentials, in_range}

-- a number of the list, read from place k
abbrev pub part_of : ℕ → std.Option (ℕ × ℕ) → std.Option Part
part_of k (Some (n, j)) = Some (Number n (k + j))
part_of k None = None

-- what a list goes on with at place k, where l stands
unfoldable pub part_at : ℕ → List ℕ → std.Option Part
part_at k l =
    cond (starts (bytes ")") l) (Some (Close (k + 1)))
    (cond (starts (bytes " ") l) (part_of (k + 1) (number 10 (drop 1 l))) None)

-- the list that was read, its numbers being the first of ns
abbrev pub list_in : List ℕ → std.Option ListRead → Listed
list_in ns (Some r) = listed (take r.count ns) r.used
list_in ns None = broken

-- the numbers stored
abbrev pub count_of : std.Option ListRead → ℕ
count_of (Some r) = r.count
count_of None = 0

-- the list at the front of l was read into `before`, which is `after` now
pub record Filled (l before : List ℕ) (r : std.Option ListRead) (after : List ℕ) : Type 0 where
  pub same : list_in after r ≡ list 10 (length before) 0 l
  pub few : count_of r ≤ length before

-- ---- the numbers of a form

-- the first n of three numbers
abbrev pub firsts : ℕ → List ℕ → List ℕ
firsts n v = take n (get_or v 0 0 ∷ get_or v 1 0 ∷ get_or v 2 0 ∷ [])

-- the n numbers held, or none
abbrev pub fields_in : ℕ → std.Option (List ℕ) → Option (List ℕ)
fields_in n (Some v) = some (firsts n v)
fields_in n None = none

-- what a form that has no numbers and asks q asks, by the numbers that stand there
abbrev pub bare_asked : Request → Option (List ℕ) → Result Request Refusal
bare_asked q (some ns) = Ok q
bare_asked q none = Err Unreadable

-- ---- a node's credentials

-- the set of ns, where they are in range and rising
unfoldable pub set_of : List ℕ → std.Option (List Bool)
set_of ns = cond (rising 0 ns) (Some (holding no_credentials ns)) None

abbrev pub gathered : Listed → std.Option Credentials
gathered (listed ns k) = Some (record { set = set_of ns; used = k })
gathered broken = None

abbrev pub node_asked : ℕ → Kind → std.Option (List Bool) → std.Option (List Bool) → Result Request Refusal
node_asked a k (Some has) (Some needs) = in_range (is_node a) (Node a k has needs)
node_asked a k (Some has) None = Err Range
node_asked a k None needs = Err Range

-- what stands behind `(needs`, its credentials being read as g
abbrev pub needs_by : ℕ → Kind → std.Option (List Bool) → List ℕ → std.Option Credentials → Result Request Refusal
needs_by a k has l (Some g) = cond (is_text (bytes ")") (drop g.used l)) (node_asked a k has g.set) (Err Unreadable)
needs_by a k has l None = Err Unreadable

abbrev pub needs_asked : ℕ → Kind → std.Option (List Bool) → List ℕ → Result Request Refusal
needs_asked a k has l = needs_by a k has l (gathered (list 10 200 0 l))

-- what stands behind `(has`, its credentials being read as g
abbrev pub has_asked : ℕ → Kind → List ℕ → std.Option Credentials → Result Request Refusal
has_asked a k l (Some g) = cond (starts (bytes " (needs") (drop g.used l)) (needs_asked a k g.set (drop 7 (drop g.used l))) (Err Unreadable)
has_asked a k l None = Err Unreadable
