-- A session in a list of calls: its replies and its part are those of its own calls by themselves. Assumes nothing.
use mathlib.Core.Path.{◌≡◌, refl, sym, ap, ap₂, ◌∙◌}
use mathlib.Core.Bool.{Bool, true, false, cond}
use mathlib.Core.List.{List, [], ◌∷◌, ◌++◌, map}
use Prim.Native.Nat.{ℕ, ◌+◌}
use native.Mathlib.Omega.{arith}
use Rattle.calculus.proofs.Tests.{either}
use Rattle.model.specs.Lists.{All, up_from}
use Rattle.calculus.specs.declared.network.Network.{Network}
use Rattle.calculus.specs.declared.state.Part.{Part}
use Rattle.calculus.specs.declared.state.State.{State}
use Rattle.model.specs.State.{load}
use Rattle.model.specs.Calls.{Reply, lines_text, Call, call, after, replies, gives_network, is_own, own, replies_to}
use Rattle.model.specs.Noninterference.{Observed, observed, number_of, numbers_in_lines, issued}
use Rattle.model.proofs.Parts.{Numbered}
use Rattle.model.proofs.Counted.{Good}
use Rattle.model.proofs.Local.{Seen, seen, local, call_own}
use Rattle.model.proofs.Replies.{call_good, call_others, call_network}
use Rattle.model.proofs.Lists.{up_append}
use Rattle.model.proofs.Numbers.{Issued, issued_none, local_issues}

-- ---- a session's calls by themselves

unfoldable local_seen : Network → Part → List Call → List Seen
local_seen n t [] = []
local_seen n t (c ∷ cs) = let x = local n t c in x ∷ local_seen n x.part cs

unfoldable local_part : Network → Part → List Call → Part
local_part n t [] = t
local_part n t (c ∷ cs) = local_part n (local n t c).part cs

record Itself (u : ℕ) (s : State) (cs : List Call) : Type 0 where
  seen : map (seen u) (replies_to u s cs) ≡ local_seen s.network (load s u) (own u cs)
  part : load (after s cs) u ≡ local_part s.network (load s u) (own u cs)

abbrev Plain : List Call → Type 0
Plain = All (λ c. gives_network c ≡ false)

itself : (u : ℕ) → Numbered u → (cs : List Call) (s : State) → Good s → Plain cs → Itself u s cs
unfolding replies_to after local_seen local_part own
itself u hu [] s g p = record { seen = refl; part = refl }
itself u hu (c ∷ cs) s g p = go (is_own u c) refl (itself u hu cs (call s c).state (call_good s g c) p.1)
  where
    net : (call s c).state.network ≡ s.network
    net = call_network s c p.0

    go : (b : Bool) → is_own u c ≡ b → Itself u (call s c).state cs → Itself u s (c ∷ cs)
    go true e h =
        let o = call_own s g u hu c e in
        let t : load (call s c).state u ≡ (local s.network (load s u) c).part = ap (λ (x : Seen). x.part) o in
        record {
          seen = rw e (ap₂ ◌∷◌ o (h.seen ∙ rw (net, t)));
          part = rw e (h.part ∙ rw (net, t));
        }
    go false e h =
        let t = call_others s g c u hu e in
        record { seen = rw e (h.seen ∙ rw (net, t)); part = rw e (h.part ∙ rw (net, t)) }

-- ---- the list of its own calls

own_own : (u : ℕ) (cs : List Call) → own u (own u cs) ≡ own u cs
unfolding own
own_own u [] = refl
own_own u (c ∷ cs) = go (is_own u c) refl (own_own u cs)
  where
    go : (b : Bool) → is_own u c ≡ b → own u (own u cs) ≡ own u cs → own u (cond b (c ∷ own u cs) (own u cs)) ≡ cond b (c ∷ own u cs) (own u cs)
    go true e h = rw (e, h)
    go false e h = h

own_replies : (u : ℕ) (cs : List Call) (s : State) → replies_to u s (own u cs) ≡ replies s (own u cs)
unfolding own replies_to replies
own_replies u [] s = refl
own_replies u (c ∷ cs) s = go (is_own u c) refl (λ x. own_replies u cs x)
  where
    go : (b : Bool) → is_own u c ≡ b → ((x : State) → replies_to u x (own u cs) ≡ replies x (own u cs))
        → replies_to u s (cond b (c ∷ own u cs) (own u cs)) ≡ replies s (cond b (c ∷ own u cs) (own u cs))
    go true e h = rw (e, h)
    go false e h = h s

own_plain : (u : ℕ) (cs : List Call) → Plain cs → Plain (own u cs)
unfolding own
own_plain u [] p = tt
own_plain u (c ∷ cs) p = either Plain (is_own u c) (λ e. (p.0, own_plain u cs p.1)) (λ e. own_plain u cs p.1)

-- ---- seen, observed and issued

abbrev observed_in : Seen → Observed
observed_in x = record { lines = lines_text x.lines; number = number_of x.refusal }

observed_seen : (u : ℕ) (l : List Reply) → map observed l ≡ map observed_in (map (seen u) l)
observed_seen u [] = refl
observed_seen u (r ∷ l) = ap (λ (x : List Observed). observed r ∷ x) (observed_seen u l)

unfoldable issued_in : List Seen → List ℕ
issued_in [] = []
issued_in (x ∷ l) = numbers_in_lines x.lines ++ issued_in l

issued_seen : (u : ℕ) (l : List Reply) → issued l ≡ issued_in (map (seen u) l)
unfolding issued issued_in
issued_seen u [] = refl
issued_seen u (r ∷ l) = ap (λ (x : List ℕ). numbers_in_lines r.lines ++ x) (issued_seen u l)

local_numbers : (n : Network) (cs : List Call) (t : Part) → Issued t (local_part n t cs) (issued_in (local_seen n t cs))
unfolding local_part local_seen issued_in
local_numbers n [] t = issued_none t
local_numbers n (c ∷ cs) t =
    let a = local_issues t n c in
    let b = local_numbers n cs (local n t c).part in
    record {
      many = a.many + b.many;
      last = b.last ∙ omega (arith, a.last);
      carried =
          ap₂ ◌++◌ a.carried (b.carried ∙ ap (λ (x : ℕ). up_from x b.many) a.last)
          ∙ sym (up_append t.session.last.0 a.many b.many);
    }

-- ---- the three together

pub record Alone (u : ℕ) (s : State) (cs : List Call) : Type 0 where
  pub answers : map observed (replies_to u s cs) ≡ map observed (replies s (own u cs))
  pub part : load (after s cs) u ≡ load (after s (own u cs)) u
  pub numbers : (load s u).session.last.0 ≡ 0 → issued (replies_to u s cs) ≡ up_from 0 (load (after s cs) u).session.last.0

pub alone : (u : ℕ) → Numbered u → (cs : List Call) (s : State) → Good s → Plain cs → Alone u s cs
alone u hu cs s g p =
    let a = itself u hu cs s g p in
    let b = itself u hu (own u cs) s g (own_plain u cs p) in
    let e = own_own u cs in
    let l = local_numbers s.network (own u cs) (load s u) in
    record {
      answers =
          observed_seen u (replies_to u s cs)
          ∙ ap (map observed_in) (a.seen ∙ sym (rw e at b.seen))
          ∙ sym (observed_seen u (replies_to u s (own u cs)))
          ∙ ap (map observed) (own_replies u cs s);
      part = a.part ∙ sym (rw e at b.part);
      numbers = λ z.
          issued_seen u (replies_to u s cs) ∙ ap issued_in a.seen ∙ l.carried
          ∙ ap₂ up_from z (omega (arith, z, l.last, ap (λ (t : Part). t.session.last.0) a.part));
    }
