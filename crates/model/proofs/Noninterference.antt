-- No session can tell whether the others are there: demand 3, of every network and every list of calls. Assumes nothing.
use mathlib.Core.Path.{◌≡◌, refl, ap, ◌∙◌}
use mathlib.Core.Bool.{Bool, true, false}
use mathlib.Core.List.{List, [], ◌∷◌}
use Prim.Native.Nat.{ℕ, ◌≤◌}
use native.Mathlib.Omega.{arith}
use borrow.Author.Tests.{lt-ltb}
use Rattle.calculus.specs.declared.session.Row.{Row}
use Rattle.calculus.specs.declared.state.Part.{Part}
use Rattle.calculus.specs.declared.state.State.{State}
use Rattle.forms.specs.Read.{read}
use Rattle.model.specs.Lists.{All}
use Rattle.model.specs.Row.{held, how_many, are_nodes, users_of, row_stands}
use Rattle.model.specs.State.{fresh, load}
use Rattle.model.specs.Calls.{Call, call, after, gives_network}
use Rattle.model.specs.Noninterference.{view_of, Noninterferes, Noninterference}
use Rattle.model.proofs.Parts.{Numbered}
use Rattle.model.proofs.Asked.{not_own}
use Rattle.model.proofs.Places.{same_itself, are_nodes_lem}
use Rattle.model.proofs.Counted.{Good, users_least}
use Rattle.model.proofs.Replies.{numbered, call_good, call_others}
use Rattle.model.proofs.Named.{RowNamed}
use Rattle.model.proofs.Fresh.{load_fresh, fresh_good}
use Rattle.model.proofs.Reached.{reached, reached_after}
use Rattle.model.proofs.Alone.{alone}

-- the network's calls leave every session as it was
network_load : (ns : List Call) (s : State) → Good s → All (λ c. gives_network c ≡ true) ns → (u : ℕ) → Numbered u → load (after s ns) u ≡ load s u
unfolding after
network_load [] s g e u hu = refl
network_load (c ∷ ns) s g e u hu =
    network_load ns (call s c).state (call_good s g c) e.1 u hu ∙ call_others s g c u hu (not_own u (read c.line) e.0)

-- ---- a row's association stands

all_stand : (l : List ℕ) (rs : List Row) → ((out : Bool) (a q : ℕ) → are_nodes a q ≡ true → how_many out a q rs ≤ users_of l out a q)
    → All RowNamed rs → All (λ r. row_stands l r ≡ true) rs
unfolding how_many
all_stand l [] h n = tt
all_stand l (r ∷ rs) h n =
    let k = rw (same_itself r.out r.node r.peers.first) at (h r.out r.node r.peers.first n.0) in
    (lt-ltb 0 (users_of l r.out r.node r.peers.first) (omega arith), all_stand l rs (λ out a q e. omega (arith, h out a q e)) n.1)

-- ---- the promise

module _ (ns cs : List Call) (hn : All (λ c. gives_network c ≡ true) ns) (hc : All (λ c. gives_network c ≡ false) cs) (u : ℕ) (hu : Numbered u) where
  abbrev start : State
  start = after fresh ns

  abbrev end : State
  end = after start cs

  unwritten : (load start u).session.last.0 ≡ 0
  unwritten = ap (λ (t : Part). t.session.last.0) (network_load ns fresh fresh_good hn u hu ∙ load_fresh u hu)

  noninterferes : Noninterferes start cs u
  noninterferes =
      let a = alone u hu cs start (reached ns).good hc in
      let h = reached_after ns cs in
      record {
        answers = a.answers;
        seen = ap view_of a.part;
        numbers = a.numbers unwritten;
        standing = all_stand end.users (held (load end u)) (users_least end h.good u hu) (h.sane u hu).rows;
        users = λ out a q ha hq. h.good.counted out a q (are_nodes_lem a q ha hq);
      }

pub noninterference : Noninterference
noninterference = record { holds = λ ns cs hn hc u e. noninterferes ns cs hn hc u (numbered u e) }
