-- The rows that grants add, over one call and over a list of calls (request #109). Assumes nothing.
use mathlib.Core.Path.{◌≡◌, refl, sym, ap, subst, ◌∙◌}
use mathlib.Core.Bool.{Bool, true, false, cond}
use mathlib.Core.List.{List, [], ◌∷◌, ◌++◌, append-nil, append_assoc}
use mathlib.Core.Option.{Option}
use Prim.Native.Nat.{ℕ, zero, suc, ◌*◌, ◌≤◌}
use native.Mathlib.Omega.{arith}
use native.Mathlib.Decide.{ℕ_discrete}
use lib.Dec.{ltb}
use lib.ListN.{length, replicate, length-append}
use borrow.Author.Tests.{eq-eqb, leb-false}
use Rattle.std.specs.Prelude.{Result, Ok, Err}
use Rattle.calculus.proofs.Tests.{either}
use Rattle.calculus.specs.declared.answer.Refusal.{Refusal}
use Rattle.calculus.specs.declared.network.Network.{Network}
use Rattle.calculus.specs.declared.packet.Item.{Item}
use Rattle.calculus.specs.declared.packet.Item.TheVariants.{Wire, Out, Up, Est, Auth, Grant, Ack, Dwait, Ewait}
use Rattle.calculus.specs.declared.packet.Side.{Side}
use Rattle.calculus.specs.declared.packet.Side.TheVariants.{Responder, Initiator}
use Rattle.calculus.specs.declared.request.Request as request
use Rattle.calculus.specs.declared.request.Request.TheVariants.{Node, Route, Open, Step, Send, Close, Show, Net, Drop}
use Rattle.calculus.specs.declared.session.Row.{Row}
use Rattle.calculus.specs.declared.session.Session.{Session}
use Rattle.calculus.specs.declared.state.Part.{Part}
use Rattle.calculus.specs.declared.state.State.{State}
use Rattle.calculus.specs.declared.state.Turn.{Turn}
use Rattle.forms.specs.Text.{Form}
use Rattle.forms.specs.Read.{read}
use Rattle.forms.specs.Request.{asked, Asked}
use Rattle.model.specs.Lists.{All}
use Rattle.model.specs.Row.{held, is_of, stands}
use Rattle.model.specs.Rules.{grant_rule, rule}
use Rattle.model.specs.State.{load, store, found_item, added_rows, applied, is_numbered}
use Rattle.model.specs.Requests.{changed, refused, node_turn, route_turn, Move, opening, open_move, stepped, step_move, sending, send_move, close_move, drop_move, performed, network_turn, step_at}
use Rattle.model.specs.Calls.{Reply, Call, call, is_accepted, after, answered, requested, replied_to, one_answer}
use Rattle.model.specs.SetUp.{is_grant}
use Rattle.model.specs.Drop.{Event, granted, removed, step_events, found_events, request_events, line_events, call_events, events}
use Rattle.model.proofs.Checks.{checked_either}
use Rattle.model.proofs.Lists.{all_append}
use Rattle.model.proofs.Parts.{Numbered}
use Rattle.model.proofs.Moves.{none_added, FairMove}
use Rattle.model.proofs.Weights.{count}
use Rattle.model.proofs.Balance.{rule_law}
use Rattle.model.proofs.Steps.{step_either}
use Rattle.model.proofs.Sane.{Sane}
use Rattle.model.proofs.Asked.{session_in, move_in, requested_own, Meaning, refuses, gives_node, gives_route, of_session, shows, gives_back, meaning}
use Rattle.model.proofs.Counted.{stored_own, stored_others}
use Rattle.model.proofs.Local.{fair_own}
use Rattle.model.proofs.Replies.{numbered}
use Rattle.model.proofs.Reached.{Sound, call_sound}
use Rattle.model.proofs.SetUp.{step_finds_places}

-- ---- the rows that a session's move leaves

abbrev pub IsOf : ℕ → Row → Type 0
IsOf e r = is_of e r ≡ true

-- the rows `after`, left of `before` by n grants of establishment e
pub record Gained (e n : ℕ) (before after : List Row) : Type 0 where
  pub added : List Row
  pub of_it : All (IsOf e) added
  pub same : after ≡ before ++ added
  pub many : length added ≡ 2 * n

-- the part t', left of session u's part t by these events
abbrev RowsBy : ℕ → Part → Part → List Event → Type 0
RowsBy u t t' [] = held t' ≡ held t
RowsBy u t t' (granted v e ∷ []) = (v ≡ u) × Gained e 1 (held t) (held t')
RowsBy u t t' (granted v e ∷ (x ∷ l)) = ⊥
RowsBy u t t' (removed ∷ l) = Unit

abbrev MoveRows : ℕ → Part → Move → List Event → Type 0
MoveRows u t (Err r) l = Unit
MoveRows u t (Ok m) l = RowsBy u t m.part l

grant_added : (s : Session) (a q e : ℕ) (side : Side)
    → let l = added_rows (grant_rule s a q e side).added in
    All (IsOf e) l × (length l ≡ 2)
unfolding grant_rule
grant_added s a q e Responder = ((eq-eqb e e refl, (eq-eqb e e refl, tt)), refl)
grant_added s a q e Initiator = ((eq-eqb e e refl, (eq-eqb e e refl, tt)), refl)

module _ (t : Part) (h : Sane t) (n : Network) (standing : ℕ → ℕ → Bool) (u : ℕ) where
  no_row : (t' : Part) (i : Item) → length (added_rows (rule n standing t i).added) ≤ 0 → held t' ≡ held t ++ added_rows (rule n standing t i).added
      → held t' ≡ held t
  no_row t' i k w = w ∙ rw (none_added (rule n standing t i).added k) (append-nil (held t))

  -- what the rule of the item i adds stands behind what stood
  item_rows : (t' : Part) (i : Item) → length (added_rows (rule n standing t i).added) ≤ 2 * count is_grant i
      → held t' ≡ held t ++ added_rows (rule n standing t i).added → RowsBy u t t' (step_events u i)
  unfolding rule
  item_rows t' (Wire a p) k w = no_row t' (Wire a p) k w
  item_rows t' (Out a p) k w = no_row t' (Out a p) k w
  item_rows t' (Up a p) k w = no_row t' (Up a p) k w
  item_rows t' (Est a b e) k w = no_row t' (Est a b e) k w
  item_rows t' (Auth a q e side) k w = no_row t' (Auth a q e side) k w
  item_rows t' (Grant a q e side) k w =
      let g = grant_added t.session a q e side in
      (refl, record { added = added_rows (grant_rule t.session a q e side).added; of_it = g.0; same = w; many = g.1 })
  item_rows t' (Ack a e) k w = no_row t' (Ack a e) k w
  item_rows t' (Dwait a) k w = no_row t' (Dwait a) k w
  item_rows t' (Ewait a e) k w = no_row t' (Ewait a e) k w

  step_rows : (k : ℕ) → MoveRows u t (step_move n standing k t) (found_events u (found_item k t.items))
  unfolding stepped
  step_rows k =
      step_either n standing k t (λ o m. MoveRows u t m (found_events u o)) (λ o r. tt)
      (λ at s e p.
      item_rows (applied t at (rule n standing t s.item)) s.item (rule_law n standing t s.item).adds
      (step_finds_places t h.roomy n standing at s e p.waits).rows)

-- ---- the rows that a call leaves

-- every session's rows are the same
abbrev pub Kept : State → State → Type 0
Kept s s' = (v : ℕ) → Numbered v → held (load s' v) ≡ held (load s v)

-- where u's are, and the others'
pub all_kept : (s s' : State) (u : ℕ) → held (load s' u) ≡ held (load s u) → ((v : ℕ) → Numbered v → (v ≡ u → ⊥) → held (load s' v) ≡ held (load s v)) → Kept s s'
all_kept s s' u own others v hv = go (ℕ_discrete v u)
  where
    go : Dec (v ≡ u) → held (load s' v) ≡ held (load s v)
    go (yes w) = rw w own
    go (no w) = others v hv w

-- but for u's, of which n grants of establishment e are new
pub record Grown (u e n : ℕ) (s s' : State) : Type 0 where
  pub others : (v : ℕ) → Numbered v → (v ≡ u → ⊥) → held (load s' v) ≡ held (load s v)
  pub own : Gained e n (held (load s u)) (held (load s' u))

abbrev Leaves : State → State → List Event → Type 0
Leaves s s' [] = Kept s s'
Leaves s s' (granted u e ∷ []) = Grown u e 1 s s'
Leaves s s' (granted u e ∷ (x ∷ l)) = ⊥
Leaves s s' (removed ∷ l) = Unit

module _ (s : State) (h : Sound s) where
  -- what a reply leaves, l being the events of its request if it is accepted
  abbrev Replied : List Event → Reply → Type 0
  Replied l x = Leaves s x.state (cond (is_accepted x.refusal) l [])

  module _ (u : ℕ) (hu : Numbered u) where
    own_rows : (q : request.Request) → session_in q ≡ u → MoveRows u (load s u) (move_in s u q) (request_events s q)
    unfolding open_move opening send_move sending close_move drop_move
    own_rows (Node a k has needs) w = tt
    own_rows (Route a b n) w = tt
    own_rows (Open v c d) w = checked_either (λ (m : Move). MoveRows u (load s u) m []) (λ r. tt) _ (λ e. refl)
    own_rows (Step v k) w = rw w (step_rows (load s u) (h.sane u hu) s.network (stands s.users false) u k.0)
    own_rows (Send v x tag) w = checked_either (λ (m : Move). MoveRows u (load s u) m []) (λ r. tt) _ (λ e. refl)
    own_rows (Close v) w = checked_either (λ (m : Move). MoveRows u (load s u) m (removed ∷ [])) (λ r. tt) _ (λ e. tt)
    own_rows Show w = tt
    own_rows Net w = tt
    own_rows (Drop v f) w = checked_either (λ (m : Move). MoveRows u (load s u) m (removed ∷ [])) (λ r. tt) _ (λ e. tt)

    moved_rows : (s' : State) (t' : Part) → load s' u ≡ t' → ((v : ℕ) → Numbered v → (v ≡ u → ⊥) → load s' v ≡ load s v)
        → (l : List Event) → RowsBy u (load s u) t' l → Leaves s s' l
    moved_rows s' t' e others [] k = all_kept s s' u (rw e k) (λ v hv ne. ap held (others v hv ne))
    moved_rows s' t' e others (granted v f ∷ []) k =
        rw k.0 (record { others = λ x hx ne. ap held (others x hx ne); own = rw e k.1 })
    moved_rows s' t' e others (granted v f ∷ (x ∷ l)) k = k
    moved_rows s' t' e others (removed ∷ l) k = tt

    performed_rows : (m : Move) → FairMove (load s u) m → (l : List Event) → MoveRows u (load s u) m l → Replied l (one_answer (performed s u m))
    unfolding performed
    performed_rows (Err r) f l k = λ v hv. refl
    performed_rows (Ok m) f l k =
        let t = m.part in
        let c = m.change in
        moved_rows (store (changed s c) u t) t (stored_own s h.good.sized u hu t f.whole c) (stored_others s h.good.sized u hu t f.whole c) l k

  asked_rows : (o : Option Form) (r : Asked) → Meaning o r → Replied (line_events s r) (replied_to s r)
  unfolding requested node_turn route_turn load
  asked_rows o r (refuses x w) = λ v hv. refl
  asked_rows o r (gives_node a k has needs i j n) =
      checked_either (λ (x : Result Network Refusal). Replied [] (one_answer (network_turn s x))) (λ x v hv. refl) _ (λ e v hv. refl)
  asked_rows o r (gives_route a b next n) =
      checked_either (λ (x : Result Network Refusal). Replied [] (one_answer (network_turn s x))) (λ x v hv. refl) _ (λ e v hv. refl)
  asked_rows o r (of_session q i k) =
      let u = session_in q in
      let hu = numbered u i in
      subst (Replied (request_events s q)) (sym (requested_own s q i))
      (performed_rows u hu (move_in s u q) (fair_own s h.good u hu q) (request_events s q)
      (own_rows u hu q refl))
  asked_rows o r (shows k) = λ v hv. refl
  asked_rows o r (gives_back k) = λ v hv. refl

  call_rows : (c : Call) → Leaves s (call s c).state (call_events s c)
  unfolding answered
  call_rows c =
      let r = asked (read c.line) in
      either (Replied (line_events s r)) (ltb c.size 65536) (λ e v hv. refl) (λ e. asked_rows (read c.line) r (meaning (read c.line)))

-- ---- the rows that a list of calls leaves

none_gained : (e : ℕ) (l m : List Row) → m ≡ l → Gained e 0 l m
none_gained e l m w = record { added = []; of_it = tt; same = w ∙ sym (append-nil l); many = refl }

gained_more : (e n : ℕ) (k l m : List Row) → Gained e 1 k l → Gained e n l m → Gained e (suc n) k m
gained_more e n k l m g h =
    record {
      added = g.added ++ h.added;
      of_it = all_append (IsOf e) g.added h.added g.of_it h.of_it;
      same = h.same ∙ ap (λ (x : List Row). x ++ h.added) g.same ∙ append_assoc k g.added h.added;
      many = omega (arith, length-append g.added h.added, g.many, h.many);
    }

-- whether the first event is a grant, its session and its establishment
abbrev first : List Event → ℕ × ℕ × ℕ
first [] = (0, 0, 0)
first (granted u e ∷ l) = (1, u, e)
first (removed ∷ l) = (0, 0, 0)

abbrev rest : List Event → List Event
rest [] = []
rest (x ∷ l) = l

module _ (u e : ℕ) (hu : Numbered u) where
  pub grown : (cs : List Call) (s : State) → Sound s → (n : ℕ) → events s cs ≡ replicate n (granted u e) → Grown u e n s (after s cs)
  unfolding after events
  grown [] s h zero w = record { others = λ v hv ne. refl; own = none_gained e _ _ refl }
  grown [] s h (suc n) w = absurd (omega (arith, ap length w))
  grown (c ∷ cs) s h n w = go (grown cs (call s c).state (call_sound s h c)) (call_events s c) (call_rows s h c) n w
    where
      s' : State
      s' = (call s c).state

      go : ((m : ℕ) → events s' cs ≡ replicate m (granted u e) → Grown u e m s' (after s' cs)) → (l : List Event) → Leaves s s' l → (n : ℕ)
          → l ++ events s' cs ≡ replicate n (granted u e) → Grown u e n s (after s' cs)
      go more [] k n w =
          let g = more n w in
          record {
            others = λ v hv ne. g.others v hv ne ∙ k v hv;
            own = subst (λ (l : List Row). Gained e n l (held (load (after s' cs) u))) (k u hu) g.own;
          }
      go more (granted v f ∷ []) k zero w = absurd (omega (arith, ap length w))
      go more (granted v f ∷ []) k (suc n) w =
          let g = more n (ap rest w) in
          let x : v ≡ u = ap (λ (l : List Event). (first l).1) w in
          let y : f ≡ e = ap (λ (l : List Event). (first l).2) w in
          let j : Grown u e 1 s s' = rw (x, y) at k in
          record {
            others = λ v hv ne. g.others v hv ne ∙ j.others v hv ne;
            own = gained_more e n (held (load s u)) (held (load s' u)) (held (load (after s' cs) u)) j.own g.own;
          }
      go more (granted v f ∷ (x ∷ l)) k n w = absurd k
      go more (removed ∷ l) k zero w = absurd (omega (arith, ap length w))
      go more (removed ∷ l) k (suc n) w = absurd (omega (arith, ap (λ (l : List Event). (first l).0) w))
