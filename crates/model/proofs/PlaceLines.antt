-- A network's text by its places: a line, or none, for each node and for each place of the routes. Assumes nothing.
use mathlib.Core.Path.{◌≡◌, refl, sym, ap, ◌∙◌}
use mathlib.Core.Bool.{Bool, true, false, cond}
use mathlib.Core.List.{List, [], ◌∷◌, ◌++◌, map, append-nil}
use Prim.Native.Nat.{ℕ, zero, suc, ◌+◌, ◌<◌}
use native.Mathlib.Nat.{add-zero, zero-add}
use native.Mathlib.Omega.{arith}
use Rattle.std.specs.Prelude.{Option, Some, None, is_some}
use borrow.Author.Tests.{lt-ltb}
use lib.ListN.{length, get_or, length-append, get_or-append}
use lib.Seq.{get_or-append-add}
use Rattle.calculus.specs.Table.{entries_from, of_some}
use Rattle.calculus.proofs.Tests.{never}
use Rattle.calculus.specs.declared.network.Network.{Network}
use Rattle.forms.specs.Bytes.{joined}
use Rattle.forms.specs.Text.{Form, form_line}
use Rattle.forms.specs.Line.{line_length}
use Rattle.forms.proofs.FormLines.{form_line_length}
use Rattle.forms.proofs.Joined.{joined_append, lines_append}
use Rattle.model.specs.NetworkText.{node_entry, node_form, route_entry, route_form, network_text}
use Rattle.model.specs.GivenBack.{Consistent}
use Rattle.model.specs.Join.{together, lines_from, place_lines, is_there, union}
use Rattle.model.specs.Lists.{All}
use Rattle.model.proofs.Lists.{all_append}
use Rattle.model.proofs.Pairs.{together_append}

-- ---- the lines of a table

pub lines_length : {A : Type 0} (f : ℕ → A → List Form) (k : ℕ) (l : List A) → length (lines_from f k l) ≡ length l
unfolding lines_from
lines_length f k [] = refl
lines_length f k (x ∷ l) = ap suc (lines_length f (k + 1) l)

pub lines_at : {A : Type 0} (f : ℕ → A → List Form) (k : ℕ) (l : List A) (d : A) (j : ℕ) → j < length l
    → get_or (lines_from f k l) j [] ≡ joined (map form_line (f (k + j) (get_or l j d)))
unfolding lines_from
lines_at f k [] d j h = absurd (omega arith)
lines_at f k (x ∷ l) d zero h = rw (add-zero k)
lines_at f k (x ∷ l) d (suc j) h =
    let e : k + 1 + j ≡ k + suc j = omega arith in
    rw e at (lines_at f (k + 1) l d j (omega arith))

lines_joined : {A : Type 0} (f : ℕ → A → List Form) (k : ℕ) (l : List A)
    → joined (map form_line (entries_from f k l)) ≡ joined (lines_from f k l)
unfolding lines_from entries_from
lines_joined f k [] = refl
lines_joined f k (x ∷ l) = rw (lines_append form_line (f k x) (entries_from f (k + 1) l), lines_joined f (k + 1) l)

-- ---- the places of a network

module _ (n : Network) where
  abbrev node_lines : List (List ℕ)
  node_lines = lines_from node_form 1 n.nodes

  abbrev route_lines : List (List ℕ)
  route_lines = lines_from route_form 0 n.routes

  pub node_line : (j : ℕ) → length n.nodes ≡ 32 → j < 32
      → get_or (place_lines n) j [] ≡ joined (map form_line (node_form (1 + j) (get_or n.nodes j None)))
  node_line j h w =
      get_or-append node_lines route_lines [] j (omega (arith, lines_length node_form 1 n.nodes))
      ∙ lines_at node_form 1 n.nodes None j (omega arith)

  pub route_line : (p : ℕ) → length n.nodes ≡ 32 → p < length n.routes
      → get_or (place_lines n) (32 + p) [] ≡ joined (map form_line (route_form p (get_or n.routes p None)))
  route_line p h w =
      ap (λ (i : ℕ). get_or (place_lines n) (i + p) []) (sym (lines_length node_form 1 n.nodes ∙ h))
      ∙ get_or-append-add node_lines route_lines p []
      ∙ (rw (zero-add p) at (lines_at route_form 0 n.routes None p w))

  pub places_count : Consistent n → length (place_lines n) ≡ 1088
  places_count h =
      omega (arith, h.nodes, h.routes, length-append node_lines route_lines, lines_length node_form 1 n.nodes, lines_length route_form 0 n.routes)

  pub text_places : network_text n ≡ joined (place_lines n)
  text_places =
      rw (
        lines_append form_line (entries_from node_form 1 n.nodes) (entries_from route_form 0 n.routes),
        lines_joined node_form 1 n.nodes,
        lines_joined route_form 0 n.routes,
      )
      (sym (joined_append node_lines route_lines))

-- ---- where a line is there

-- the line of an entry, if it is there, whose form is that which f gives
abbrev pub entry_line : {A : Type 0} → (A → Form) → Option A → List ℕ
entry_line f x = joined (map form_line (of_some f x))

pub entry_there : {A : Type 0} (f : A → Form) (x : Option A) → is_there (entry_line f x) ≡ is_some x
entry_there f None = refl
entry_there f (Some x) = lt-ltb 0 (length (entry_line f (Some x))) (simp length-append (omega arith))

pub node_there : (n : Network) (j : ℕ) → Consistent n → j < 32 → is_there (get_or (place_lines n) j []) ≡ is_some (get_or n.nodes j None)
node_there n j h w = ap is_there (node_line n j h.nodes w) ∙ entry_there (node_entry (1 + j)) (get_or n.nodes j None)

pub route_there : (n : Network) (p : ℕ) → Consistent n → p < 1056 → is_there (get_or (place_lines n) (32 + p) []) ≡ is_some (get_or n.routes p None)
route_there n p h w = ap is_there (route_line n p h.nodes (omega (arith, h.routes))) ∙ entry_there (route_entry p) (get_or n.routes p None)

-- ---- two networks

-- the first of two lines that is there
abbrev pub first_of : List ℕ → List ℕ → List ℕ
first_of x y = cond (is_there x) x y

line_either : {A : Type 0} (line : A → List ℕ) (b : Bool) (x y : A) → is_there (line x) ≡ b → line (cond b x y) ≡ first_of (line x) (line y)
line_either line true x y e = rw e
line_either line false x y e = rw e

-- an entry's line is the first of two, where the entry is
lines_together : {A : Type 0} (f : ℕ → A → List Form) (isGiven : A → Bool) → ((k : ℕ) (x : A) → is_there (joined (map form_line (f k x))) ≡ isGiven x)
    → (k : ℕ) (l m : List A)
    → lines_from f k (together (λ x y. cond (isGiven x) x y) l m) ≡ together first_of (lines_from f k l) (lines_from f k m)
unfolding lines_from together
lines_together f isGiven there k [] m = refl
lines_together f isGiven there k (x ∷ l) [] = refl
lines_together {A} f isGiven there k (x ∷ l) (y ∷ m) =
    rw (line_either (λ (z : A). joined (map form_line (f k z))) (isGiven x) x y (there k x), lines_together f isGiven there (k + 1) l m)

pub union_places : (n m : Network) → Consistent n → Consistent m → place_lines (union n m) ≡ together first_of (place_lines n) (place_lines m)
union_places n m h g =
    let nodes = lines_together node_form is_some (λ a x. entry_there (node_entry a) x) 1 n.nodes m.nodes in
    let routes = lines_together route_form is_some (λ p x. entry_there (route_entry p) x) 0 n.routes m.routes in
    let same : length (node_lines n) ≡ length (node_lines m) = lines_length node_form 1 n.nodes ∙ h.nodes ∙ sym g.nodes ∙ sym (lines_length node_form 1 m.nodes) in
    ap (λ (l : List (List ℕ)). l ++ route_lines (union n m)) nodes ∙ ap (λ (l : List (List ℕ)). together first_of (node_lines n) (node_lines m) ++ l) routes
    ∙ sym (together_append first_of (node_lines n) (route_lines n) (node_lines m) (route_lines m) same)

-- ---- each is one line

-- a text that is there is one line: whatever follows it, its newline is its last byte
abbrev pub IsLine : List ℕ → Type 0
IsLine x = is_there x ≡ true → (rest : List ℕ) → line_length (x ++ rest) + 1 ≡ length x

entry_is_line : {A : Type 0} (f : A → Form) (x : Option A) → IsLine (entry_line f x)
entry_is_line f None = never
entry_is_line f (Some x) = rw (append-nil (form_line (f x))) λ e. form_line_length (f x)

lines_are_lines : {A : Type 0} (f : ℕ → A → List Form) → ((k : ℕ) (x : A) → IsLine (joined (map form_line (f k x))))
    → (k : ℕ) (l : List A) → All IsLine (lines_from f k l)
unfolding lines_from
lines_are_lines f each k [] = tt
lines_are_lines f each k (x ∷ l) = (each k x, lines_are_lines f each (k + 1) l)

pub places_lines : (n : Network) → All IsLine (place_lines n)
places_lines n =
    all_append IsLine (node_lines n) (route_lines n) (lines_are_lines node_form (λ a x. entry_is_line (node_entry a) x) 1 n.nodes)
    (lines_are_lines route_form (λ p next. entry_is_line (route_entry p) next) 0 n.routes)
