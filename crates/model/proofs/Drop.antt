-- A tunnel that is dropped leaves what stood before it (request #109). Assumes nothing.
use mathlib.Core.Path.{◌≡◌, refl, sym, ap, ◌∙◌}
use mathlib.Core.Bool.{Bool, true, false, ◌&&◌}
use mathlib.Core.List.{List, append-nil}
use mathlib.Core.Option.{Option, none, some}
use Prim.Native.Nat.{ℕ, ◌≤◌, ◌<◌}
use native.Mathlib.Omega.{arith}
use lib.Dec.{ltb}
use lib.ListN.{get_or}
use lib.Seq.{ext_get_or}
use Rattle.calculus.proofs.Tests.{both, never, either}
use Rattle.calculus.specs.Number.{is_session, is_establishment}
use Rattle.calculus.specs.declared.answer.Refusal.{Refusal}
use Rattle.calculus.specs.declared.request.Request.TheVariants.{Drop}
use Rattle.calculus.specs.declared.session.Row.{Row}
use Rattle.calculus.specs.declared.state.State.{State}
use Rattle.forms.specs.Text.{take_down}
use Rattle.forms.specs.Read.{read}
use Rattle.forms.specs.Request.{in_range}
use Rattle.model.specs.Lists.{tally, those}
use Rattle.model.specs.Row.{held, is_of, is_other, place_out, place_node, place_peer, users_of}
use Rattle.model.specs.State.{fresh, load}
use Rattle.model.specs.Requests.{Move, dropping, drop_move, performed}
use Rattle.model.specs.Calls.{Reply, Call, call, is_accepted, after, answered, requested, replied_to, one_answer}
use Rattle.model.specs.Drop.{Drops}
use Rattle.model.proofs.Checks.{checked_either}
use Rattle.model.proofs.Lists.{all_map, none_tallied, tally_all, tally_append, those_all, those_none, those_append}
use Rattle.model.proofs.Parts.{Numbered}
use Rattle.model.proofs.Places.{at_place, nodes_at}
use Rattle.model.proofs.Moves.{held_dropping, FairMove}
use Rattle.model.proofs.Roomy.{rows_four}
use Rattle.model.proofs.Counted.{Good, naming_same, stored_own, stored_others}
use Rattle.model.proofs.Local.{fair_own}
use Rattle.model.proofs.Replies.{numbered}
use Rattle.model.proofs.Reached.{Sound, call_sound, reached, reached_after}
use Rattle.model.proofs.Grants.{IsOf, Gained, Kept, all_kept, grown}

-- ---- the drop

-- an establishment has 4 rows at most, so those that both its grants added are all
others_gained : (e : ℕ) (l m : List Row) → Gained e 2 l m → tally (is_of e) m ≤ 4 → those (is_other e) m ≡ l
others_gained e l m g b =
    let n = ap (tally (is_of e)) g.same ∙ tally_append (is_of e) l g.added in
    let before = none_tallied (is_of e) l (omega (arith, n, tally_all (is_of e) g.added g.of_it, g.many)) in
    ap (those (is_other e)) g.same
    ∙ those_append (is_other e) l g.added
    ∙ rw (those_all (is_other e) l (all_map _ _ (λ r k. rw k) l before), those_none (is_other e) g.added (all_map (IsOf e) _ (λ r k. rw k) g.added g.of_it))
    (append-nil l)

-- what an accepted drop of session u leaves of the state t
record Dropped (u e : ℕ) (t t' : State) : Type 0 where
  numbered : Numbered u
  others : (v : ℕ) → Numbered v → (v ≡ u → ⊥) → held (load t' v) ≡ held (load t v)
  own : held (load t' u) ≡ those (is_other e) (held (load t u))

-- of a reply, if it is accepted
abbrev IfAccepted : ℕ → ℕ → State → Reply → Type 0
IfAccepted u e t r = r.refusal ≡ none → Dropped u e t r.state

not_accepted : {A : Type 0} (r : Refusal) → ◌≡◌ {A = Option Refusal} (some r) none → A
not_accepted r w = never (ap is_accepted w)

module _ (t : State) (h : Sound t) (u e : ℕ) where
  asks_drop : Numbered u → IfAccepted u e t (requested t (Drop (record { 0 = u }) e))
  unfolding requested drop_move performed
  asks_drop hu =
      let p = load t u in
      checked_either (λ (m : Move). FairMove p m → IfAccepted u e t (one_answer (performed t u m))) (λ r f w. not_accepted r w) _
      (λ k f w.
      record {
        numbered = hu;
        others = λ v hv ne. ap held (stored_others t h.good.sized u hu (dropping e p) f.whole _ v hv ne);
        own = ap held (stored_own t h.good.sized u hu (dropping e p) f.whole _) ∙ held_dropping e p;
      })
      (fair_own t h.good u hu (Drop (record { 0 = u }) e))

  ranged : (b : Bool) → (b ≡ true → Numbered u) → IfAccepted u e t (replied_to t (in_range b (Drop (record { 0 = u }) e)))
  ranged true i = asks_drop (i refl)
  ranged false i = λ w. not_accepted _ w

  drop_rows : (c : Call) → read c.line ≡ some (take_down u e) → IfAccepted u e t (call t c)
  unfolding answered
  drop_rows c w =
      either (IfAccepted u e t) (ltb c.size 65536) (λ i x. not_accepted _ x)
      (λ i. rw w (ranged (is_session u && is_establishment e) (λ k. numbered u (both (is_session u) (is_establishment e) k).0)))

-- ---- users follow the rows

-- the users at a place of their table are those of its association
users_at : (l : List ℕ) (p : ℕ) → p < 2048 → get_or l p 0 ≡ users_of l (place_out p) (place_node p) (place_peer p)
unfolding users_of
users_at l p h = rw (nodes_at p h, (at_place p).place)

users_same : (s s' : State) → Good s → Good s' → Kept s s' → s'.users ≡ s.users
users_same s s' g g' h =
    ext_get_or 0 s'.users s.users (omega (arith, g.sized, g'.sized))
    (λ p i.
    let b : p < 2048 = omega (arith, g'.sized) in
    let out = place_out p in
    let a = place_node p in
    let q = place_peer p in
    users_at s'.users p b
    ∙ g'.counted out a q (nodes_at p b)
    ∙ naming_same out a q s s' 8 0 (λ v i m. h v (omega arith))
    ∙ sym (g.counted out a q (nodes_at p b))
    ∙ sym (users_at s.users p b))

-- ---- the promise

pub drops : Drops
drops =
    record {
      leaves = λ before cs c u e w i a.
          let s = after fresh before in
          let t = after s cs in
          let t' = (call t c).state in
          let hs = reached before in
          let ht = reached_after before cs in
          let d = drop_rows t ht u e c i a in
          let g = grown u e d.numbered cs s hs 2 w in
          let own = d.own ∙ others_gained e (held (load s u)) (held (load t u)) g.own (rows_four (load t u) (ht.sane u d.numbered).roomy e) in
          let kept : Kept s t' = all_kept s t' u own (λ v hv ne. d.others v hv ne ∙ g.others v hv ne) in
          record { rows = λ v k. kept v (numbered v k); users = users_same s t' hs.good (call_sound t ht c).good kept };
    }
