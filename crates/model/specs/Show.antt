-- Show: one line for each standing association, no other, in a set order (document 02, #102). Proved in proofs/Show. Assumes nothing.
use Rattle.std.specs.Prelude.{ℕ, ◌≤◌, ◌≡◌, Bool, cond, List, [], ◌∷◌, ltb, length}
use Rattle.calculus.specs.declared.answer.ShownAssociation.{ShownAssociation}
use Rattle.calculus.specs.declared.state.State.{State}
use Rattle.forms.specs.Bytes.{joined}
use Rattle.forms.specs.Text.{show, text}
use Rattle.model.specs.Lists.{those, All, Rising}
use Rattle.model.specs.Row.{same_association, users_of}
use Rattle.model.specs.Requests.{association, shown, shown_lines}
use Rattle.model.specs.Calls.{reported, short, answered}

-- x is In(a, q), or Out(a, q)
abbrev pub is_for : Bool → ℕ → ℕ → ShownAssociation → Bool
is_for out a q x = same_association x.out x.node x.peer out a q

-- the ones of m that are
abbrev pub all_for : Bool → ℕ → ℕ → List ShownAssociation → List ShownAssociation
all_for out a q m = those (is_for out a q) m

-- whatever a and q are, m has In(a, q), or Out(a, q), once, with its users, where it stands by the table of users l, and else not
abbrev pub OneForEach : List ℕ → List ShownAssociation → Type 0
OneForEach l m = (out : Bool) (a q : ℕ) → all_for out a q m ≡ association out a q (users_of l out a q)

-- "by node, then in before out, then by peer"
abbrev pub association_key : ShownAssociation → List ℕ
association_key x = x.node ∷ cond x.out 1 0 ∷ x.peer ∷ []

pub record Show : Type 0 where
  -- the lines of `shown` and `(end)` are written, at any time, and nothing changes; of a line that is `(show)` refusal 0 is the only one
  pub written : (s : State) (size : ℕ)
      → answered s (text show) size ≡ cond (ltb size 65536) (short s) (reported s (shown_lines s.users))
  -- "one line for each standing association, no other"
  pub once : (l : List ℕ) → OneForEach l (shown l)
  -- "Show now goes by node, then in before out, then by peer."
  pub ordered : (l : List ℕ) → Rising association_key (shown l)
  -- these two leave no choice: no other list has both
  pub fixed : (l : List ℕ) (m : List ShownAssociation) → OneForEach l m → Rising association_key m → m ≡ shown l
  -- the lines fit into the lent output of 65,536 bytes
  pub fits : (l : List ℕ) → All (λ n. n ≤ 65535) l → length (joined (shown_lines l)) ≤ 65536
