-- What a call can leave of a state, by cases. Assumes nothing.
use mathlib.Core.Path.{◌≡◌, refl, sym, subst, ◌∙◌}
use mathlib.Core.Bool.{Bool, true, false}
use mathlib.Core.List.{List}
use Prim.Native.Nat.{ℕ}
use native.Mathlib.Omega.{arith}
use lib.Dec.{ltb, eqb}
use borrow.Author.Tests.{eqb-false, not-false}
use Rattle.std.specs.Prelude.{Result, Ok, Err}
use Rattle.calculus.specs.Number.{is_session}
use Rattle.calculus.proofs.Tests.{within_bounds, never, neither, either}
use Rattle.calculus.specs.declared.answer.Refusal.{Refusal}
use Rattle.calculus.specs.declared.network.Kind.{Kind}
use Rattle.calculus.specs.declared.network.Network.{Network}
use Rattle.calculus.specs.declared.request.Request as request
use Rattle.calculus.specs.declared.state.State.{State}
use Rattle.calculus.specs.declared.state.Turn.{Turn}
use Rattle.forms.specs.Read.{read}
use Rattle.forms.specs.Request.{Asked, asked}
use Rattle.model.specs.State.{load, store}
use Rattle.model.specs.Requests.{network_turn, refused, accepted, with_node, with_route, nodes_given, leads_back, node_turn, route_turn, Move, changed, performed}
use Rattle.model.specs.Calls.{Reply, Call, call, answered, requested, replied_to, gives_network, is_own}
use Rattle.model.proofs.Checks.{checked_either}
use Rattle.model.proofs.Parts.{Numbered}
use Rattle.model.proofs.Asked.{session_in, move_in, requested_own, IsSet, Meaning, refuses, gives_node, gives_route, of_session, shows, gives_back, meaning}
use Rattle.model.proofs.Counted.{Good, naming_others}
use Rattle.model.proofs.Local.{fair_own, performed_good, performed_others}

pub numbered : (u : ℕ) → is_session u ≡ true → Numbered u
numbered u e = let h = within_bounds 1 8 u e in record { least = h.0; most = h.1 }

-- the networks that a node or route call can leave of n
pub data Given (n : Network) : Network → Type 0 where
  by_node : (a : ℕ) (k : Kind) (has needs : List Bool) → IsSet has → IsSet needs → Given n (with_node n a k has needs)
  by_route : (a b next : ℕ) → nodes_given n a b next ≡ true → leads_back a b next ≡ false → Given n (with_route n a b next)

-- a call leaves the state, a network that it gives, or what a session's move leaves
module _ (P : State → Type 0) (s : State) (c : Call) (same : P s)
    (gives : gives_network c ≡ true → s.opened ≡ false → (n : Network) → Given s.network n → P (accepted s n).state)
    (moves : (q : request.Request) → is_session (session_in q) ≡ true → ((u : ℕ) → is_own u c ≡ eqb (session_in q) u)
    → P (performed s (session_in q) (move_in s (session_in q) q)).state) where
  asked_cases : (r : Asked) → Meaning (read c.line) r → P (replied_to s r).state
  unfolding requested node_turn route_turn
  asked_cases r (refuses x w) = same
  asked_cases r (gives_node a k has needs i j n) =
      checked_either (λ (x : Result Network Refusal). P (network_turn s x).state) (λ x. same) _ (λ e. gives n e.0 _ (by_node a k has needs i j))
  asked_cases r (gives_route a b next n) =
      checked_either (λ (x : Result Network Refusal). P (network_turn s x).state) (λ x. same) _
      (λ e. gives n e.0 _ (by_route a b next (not-false (nodes_given s.network a b next) e.1.0) e.1.1.0))
  asked_cases r (of_session q i h) = subst (λ (x : Reply). P x.state) (sym (requested_own s q i)) (moves q i h)
  asked_cases r (shows h) = same
  asked_cases r (gives_back h) = same

  pub call_cases : P (call s c).state
  unfolding answered
  call_cases =
      either (λ (x : Reply). P x.state) (ltb c.size 65536) (λ e. same) (λ e. asked_cases (asked (read c.line)) (meaning (read c.line)))

-- ---- of a good state

pub given_load : (s : State) (n : Network) (u : ℕ) → load (accepted s n).state u ≡ load s u
unfolding load
given_load s n u = refl

pub given_good : (s : State) (n : Network) → Good s → Good (accepted s n).state
given_good s n g =
    let s' = (accepted s n).state in
    record {
      sized = omega (arith, g.sized);
      counted = λ out a q h.
          g.counted out a q h ∙ sym (naming_others out a q s s' 0 (λ v hv ne. given_load s n v) 8 0 (omega arith) (omega arith));
    }

pub performed_network : (s : State) (u : ℕ) (m : Move) → (performed s u m).state.network ≡ s.network
unfolding performed store changed
performed_network s u (Err r) = refl
performed_network s u (Ok m) = refl

pub performed_opened : (s : State) (u : ℕ) (m : Move) → (performed s u m).state.opened ≡ false → s.opened ≡ false
unfolding performed store changed
performed_opened s u (Err r) e = e
performed_opened s u (Ok m) e = (neither m.change.opens s.opened e).1

module _ (s : State) (g : Good s) (c : Call) where
  pub call_good : Good (call s c).state
  call_good =
      call_cases Good s c g (λ e o n h. given_good s n g)
      (λ q i h.
      let k = numbered (session_in q) i in
      performed_good s g (session_in q) k _ (fair_own s g (session_in q) k q))

  pub call_others : (u : ℕ) → Numbered u → is_own u c ≡ false → load (call s c).state u ≡ load s u
  call_others u hu e =
      call_cases (λ (x : State). load x u ≡ load s u) s c refl (λ e o n h. given_load s n u)
      (λ q i h.
      let k = numbered (session_in q) i in
      performed_others s g (session_in q) k _ (fair_own s g (session_in q) k q) u hu
      (λ w. eqb-false (session_in q) u (sym (h u) ∙ e) (sym w)))

pub call_network : (s : State) (c : Call) → gives_network c ≡ false → (call s c).state.network ≡ s.network
call_network s c e =
    call_cases (λ (x : State). x.network ≡ s.network) s c refl (λ w o n h. never (sym e ∙ w)) (λ q i h. performed_network s (session_in q) _)
