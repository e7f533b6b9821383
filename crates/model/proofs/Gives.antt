-- Lines that are accepted one after the other, and a table that they fill. Assumes nothing.
use mathlib.Core.Path.{◌≡◌, refl, sym, ap, ◌∙◌}
use mathlib.Core.Bool.{false}
use mathlib.Core.List.{List, [], ◌∷◌, ◌++◌, map}
use mathlib.Core.Option.{none}
use Prim.Native.Nat.{ℕ, ◌+◌}
use native.Mathlib.Omega.{arith}
use lib.ListN.{length, replicate, length-append}
use lib.Seq.{append_snoc}
use Rattle.calculus.specs.Table.{entries_from}
use Rattle.calculus.proofs.Tests.{within_bounds}
use Rattle.calculus.specs.declared.answer.Answer.{Answer}
use Rattle.std.specs.Prelude.{Ok}
use Rattle.calculus.specs.declared.network.Network.{Network}
use Rattle.calculus.specs.declared.network.Node as declared
use Rattle.calculus.specs.declared.state.State.{State}
use Rattle.forms.specs.Request.{node_of}
use Rattle.forms.specs.Text.{Form, route, text}
use Rattle.forms.proofs.Credentials.{credentials_rising, credentials_same}
use Rattle.forms.proofs.ReadAgain.{node_read, route_read}
use Rattle.model.specs.Lists.{All}
use Rattle.model.specs.Network.{given, is_routed}
use Rattle.model.specs.Requests.{checked, with_node, with_route, node_turn, route_turn}
use Rattle.model.specs.Calls.{answer, Reply, Call, call, answered, requested, after, replies, roomy_call}
use Rattle.model.specs.GivenBack.{IsNode, Passes, fresh_with, AnsweredOk}
use Rattle.model.proofs.Nodes.{Node, nodes_range}

-- ---- one line

abbrev pub line_of : Form → Call
line_of f = roomy_call (text f)

abbrev pub ok : State → Reply
ok s = record { state = s; lines = answer (Ok Answer.Ok); refusal = none }

pub node_ok : (n : Network) (a : ℕ) (x : declared.Node) → Node a → given n a ≡ false → IsNode x
    → call (fresh_with n) (line_of (node_of a x.kind x.has x.needs))
    ≡ ok (fresh_with (with_node n a x.kind x.has x.needs))
unfolding answered requested node_turn checked
node_ok n a x i g h =
    rw (
      node_read a x.kind x.has x.needs (within_bounds 1 32 a i).1 h.has h.needs,
      i,
      credentials_rising x.has h.has,
      credentials_rising x.needs h.needs,
      credentials_same x.has h.has,
      credentials_same x.needs h.needs,
      g,
    )

pub route_ok : (n : Network) (a b next : ℕ) → Passes n a b next → is_routed n a b ≡ false
    → call (fresh_with n) (line_of (route a b next)) ≡ ok (fresh_with (with_route n a b next))
unfolding answered requested route_turn checked
route_ok n a b next p free =
    let r = nodes_range n a b next p.0 in
    rw (
      route_read a b next (within_bounds 1 32 a r.at).1 (within_bounds 0 32 b r.for).1 (within_bounds 1 32 next r.by).1,
      r.at,
      r.for,
      r.by,
      p.0,
      p.1,
      free,
    )

-- ---- lines one after the other

-- from s the lines of fs are all accepted, and leave t
pub data Gives : State → List Form → State → Type 0 where
  none_left : {s : State} → Gives s [] s
  one_more : {s r t : State} {f : Form} {fs : List Form} → call s (line_of f) ≡ ok r → Gives r fs t → Gives s (f ∷ fs) t

pub gives_append : {s t u : State} {fs gs : List Form} → Gives s fs t → Gives t gs u → Gives s (fs ++ gs) u
gives_append none_left h = h
gives_append (one_more e g) h = one_more e (gives_append g h)

pub gives_after : {s t : State} {fs : List Form} → Gives s fs t → after s (map line_of fs) ≡ t
unfolding after
gives_after none_left = refl
gives_after (one_more {fs = fs} e g) = ap (λ (x : Reply). after x.state (map line_of fs)) e ∙ gives_after g

pub gives_ok : {s t : State} {fs : List Form} → Gives s fs t → All AnsweredOk (replies s (map line_of fs))
unfolding replies
gives_ok none_left = tt
gives_ok (one_more e g) = rw e (refl, gives_ok g)

-- ---- a table, entry by entry

next_place : {A : Type 0} (k : ℕ) (p : List A) (x : A) → k + length (p ++ (x ∷ [])) ≡ k + length p + 1
next_place k p x = omega (arith, length-append p (x ∷ []))

-- `holding` is the state that has this table; where an entry is still blank, its form fills it in
module _ {A : Type 0} (holding : List A → State) (blank : A) (form : ℕ → A → List Form) (k : ℕ) (all : List A)
    (fills : (p : List A) (x : A) (r l : List A) → all ≡ p ++ x ∷ l
    → Gives (holding (p ++ blank ∷ r)) (form (k + length p) x) (holding (p ++ x ∷ r)))
  where
    pub table_gives : (p l : List A) → all ≡ p ++ l
        → Gives (holding (p ++ replicate (length l) blank)) (entries_from form (k + length p) l) (holding (p ++ l))
    unfolding entries_from
    table_gives p [] w = none_left
    table_gives p (x ∷ l) w =
        let more = table_gives (p ++ (x ∷ [])) l (w ∙ sym (append_snoc p x l)) in
        gives_append (fills p x (replicate (length l) blank) l w) (simp (append_snoc, next_place) at more)
