-- What holds of every state that calls reach from a fresh one. Assumes nothing.
use mathlib.Core.Path.{◌≡◌, ap}
use mathlib.Core.Bool.{true, false}
use mathlib.Core.List.{List, [], ◌∷◌}
use Prim.Native.Nat.{ℕ}
use native.Mathlib.Omega.{arith}
use native.Mathlib.Decide.{ℕ_discrete}
use Rattle.std.specs.Prelude.{Ok, Err}
use Rattle.calculus.proofs.Tests.{neither}
use Rattle.calculus.specs.declared.network.Network.{Network}
use Rattle.calculus.specs.declared.request.Request as request
use Rattle.calculus.specs.declared.state.Part.{Part}
use Rattle.calculus.specs.declared.state.State.{State}
use Rattle.model.specs.Row.{stands}
use Rattle.model.specs.State.{fresh, load, store}
use Rattle.model.specs.Requests.{Move, unused, changed, performed}
use Rattle.model.specs.Calls.{Call, call, after}
use Rattle.model.proofs.Parts.{Numbered}
use Rattle.model.specs.GivenBack.{Consistent}
use Rattle.model.proofs.Consistent.{consistent_fresh, consistent_node, consistent_route}
use Rattle.model.proofs.Moves.{FairMove}
use Rattle.model.proofs.Sane.{Sane, SaneMove, sane_empty, sane_open, sane_step, sane_send, sane_close, sane_drop}
use Rattle.model.proofs.Asked.{session_in, own_cases, move_in}
use Rattle.model.proofs.Counted.{Good}
use Rattle.model.proofs.Local.{Seen, seen_move, fair_own, performed_own, performed_others, performed_good}
use Rattle.model.proofs.Replies.{numbered, Given, by_node, by_route, call_cases, given_load, given_good, performed_network, performed_opened}
use Rattle.model.proofs.Fresh.{load_fresh, fresh_good}

pub record Sound (s : State) : Type 0 where
  pub good : Good s
  pub consistent : Consistent s.network
  pub sane : (u : ℕ) → Numbered u → Sane (load s u)
  -- while node and route calls are not late, every session is unused
  pub early : (u : ℕ) → Numbered u → s.opened ≡ false → unused (load s u) ≡ true

consistent_given : (n n' : Network) → Given n n' → Consistent n → Consistent n'
consistent_given n n' (by_node a k has needs i j) h = consistent_node n a k has needs i j h
consistent_given n n' (by_route a b next e f) h = consistent_route n a b next e f h

sane_after : (t : Part) (m : Move) → Sane t → SaneMove m → Sane (seen_move t m).part
sane_after t (Err r) h k = h
sane_after t (Ok m) h k = k

early_after : (s : State) (u : ℕ) (m : Move) → FairMove (load s u) m → (s.opened ≡ false → unused (load s u) ≡ true)
    → (performed s u m).state.opened ≡ false → unused (seen_move (load s u) m).part ≡ true
unfolding performed store changed
early_after s u (Err r) f h e = h e
early_after s u (Ok m) f h e = let o = neither m.change.opens s.opened e in f.opens o.0 (h o.1)

module _ (s : State) (h : Sound s) where
  sane_own : (u : ℕ) → Numbered u → (q : request.Request) → SaneMove (move_in s u q)
  sane_own u hu q =
      let t = load s u in
      let k = h.sane u hu in
      own_cases SaneMove s.network (stands s.users false) q t tt
      (sane_open t k _) (sane_step t k _ h.consistent _) (sane_send t k) (sane_close t k) (sane_drop t k)

  turn_sound : (u : ℕ) → Numbered u → (m : Move) → FairMove (load s u) m → SaneMove m → Sound (performed s u m).state
  turn_sound u hu m f k =
      record {
        good = performed_good s h.good u hu m f;
        consistent = rw (performed_network s u m) h.consistent;
        sane = λ v hv. part v hv (ℕ_discrete v u);
        early = λ v hv e. unused_part v hv (ℕ_discrete v u) e;
      }
    where
      unused_part : (v : ℕ) → Numbered v → Dec (v ≡ u) → (performed s u m).state.opened ≡ false → unused (load (performed s u m).state v) ≡ true
      unused_part v hv (yes e) w =
          rw (e, ap (λ (x : Seen). x.part) (performed_own s h.good u hu m f)) (early_after s u m f (h.early u hu) w)
      unused_part v hv (no e) w = rw (performed_others s h.good u hu m f v hv e) (h.early v hv (performed_opened s u m w))

      part : (v : ℕ) → Numbered v → Dec (v ≡ u) → Sane (load (performed s u m).state v)
      part v hv (yes e) =
          rw (e, ap (λ (x : Seen). x.part) (performed_own s h.good u hu m f)) (sane_after (load s u) m (h.sane u hu) k)
      part v hv (no e) = rw (performed_others s h.good u hu m f v hv e) (h.sane v hv)

  pub call_sound : (c : Call) → Sound (call s c).state
  call_sound c =
      call_cases Sound s c h
      (λ e o n g.
      record {
        good = given_good s n h.good;
        consistent = consistent_given s.network n g h.consistent;
        sane = λ u hu. rw (given_load s n u) (h.sane u hu);
        early = λ u hu. rw (given_load s n u) (h.early u hu);
      })
      (λ q i o.
      let u = session_in q in
      let hu = numbered u i in
      turn_sound u hu _ (fair_own s h.good u hu q) (sane_own u hu q))

after_sound : (cs : List Call) (s : State) → Sound s → Sound (after s cs)
unfolding after
after_sound [] s h = h
after_sound (c ∷ cs) s h = after_sound cs (call s c).state (call_sound s h c)

pub fresh_sound : Sound fresh
fresh_sound =
    record {
      good = fresh_good;
      consistent = consistent_fresh;
      sane = λ u hu. rw (load_fresh u hu) (sane_empty 0 (omega arith));
      early = λ u hu e. rw (load_fresh u hu);
    }

pub reached : (cs : List Call) → Sound (after fresh cs)
reached cs = after_sound cs fresh fresh_sound

-- the same, of a list that goes on
pub reached_after : (ns cs : List Call) → Sound (after (after fresh ns) cs)
reached_after ns cs = after_sound cs (after fresh ns) (reached ns)
