-- What `Turn` says of a line, by its session's part and the shared tables, is what `Calls` says of the whole state. Assumes nothing.
use mathlib.Core.Path.{◌≡◌, refl, sym, ap, ◌∙◌}
use mathlib.Core.Bool.{Bool, true, false, cond, ◌||◌}
use mathlib.Core.List.{List, [], ◌∷◌}
use Prim.Native.Nat.{ℕ, zero, suc, ◌+◌, ◌-◌, ◌*◌, ◌≤◌, ◌<◌}
use native.Mathlib.Omega.{arith}
use native.Mathlib.Decide.{ℕ_discrete}
use native.Mathlib.Nat.{mul-zero, mul-suc, add-sub_cancel}
use lib.ListN.{length, get_or, set, take, drop, length-set, take-append-drop}
use lib.Seq.{paste, take_all, take-take, take-add, ext_get_or, set-get_or, get_or-set_same, get_or-set_other}
use Rattle.std.specs.Prelude.{Result, Ok, Err, is_ok}
use Rattle.calculus.specs.declared.answer.Answer.{Answer}
use Rattle.calculus.specs.declared.answer.Refusal.{Refusal}
use Rattle.calculus.specs.declared.network.Network.{Network}
use Rattle.calculus.specs.declared.request.Request as request
use Rattle.calculus.specs.declared.request.Request.TheVariants.{Node, Route, Open, Step, Send, Close, Show, Net, Drop}
use Rattle.calculus.specs.declared.request.Sender.{Sender}
use Rattle.calculus.specs.declared.state.Part.{Part}
use Rattle.calculus.specs.declared.state.State.{State}
use Rattle.calculus.specs.declared.state.Turn.{Turn}
use Rattle.forms.specs.Request.{Asked}
use Rattle.model.specs.Row.{one_more, one_less, lowered, stands}
use Rattle.model.specs.State.{load, store, blank_session}
use Rattle.model.specs.Requests.{Check, checked, refused, accepted, network_turn, node_turn, route_turn, Move, open_move, step_at, stepped, step_move, send_move, close_move, drop_move, changed, performed}
use Rattle.model.specs.Calls.{answer, Reply, refusal_in, one_answer, requested, replied_to}
use Rattle.model.specs.Turn.{answer_in, part_after, opened_after, users_after, session_of, requested_of, turn_of, part_with, opened_with, users_with, users_of, answers_ok, network_of, report_of, lines_as, Turned, turned, state_with, Parts, Held, part_of}
use Rattle.model.proofs.Checks.{checked_either}
use Rattle.model.proofs.Steps.{step_either}
use Rattle.model.proofs.Users.{fold_length}
use Rattle.model.proofs.Moves.{FairMove, fair_open, fair_step, fair_send, fair_close, fair_drop}
use Rattle.model.proofs.Parts.{load_whole, Sized, Whole, Numbered, store_sized, load_stored, load_others}

-- ---- a part that is stored as it was loaded changes nothing

paste_same : {A : Type 0} (l : List A) (b n : ℕ) → paste l b (take n (drop b l)) n ≡ l
paste_same l b n = rw (take-take n n (drop b l) (omega arith), ← take-add b n l, take-append-drop)

pub store_loaded : (s : State) (u : ℕ) → store s u (load s u) ≡ s
unfolding load store
store_loaded s u =
    rw (set-get_or s.sessions (u - 1) blank_session, paste_same s.items (16 * (u - 1)) 16, paste_same s.rows (32 * (u - 1)) 32)

-- ---- a line

-- the reply to the line r whose turn leaves x
abbrev pub reply_of : State → Asked → Turned → Reply
reply_of s r x =
    record {
      state = state_with s (session_of r) x;
      lines = lines_as s.network x.users x.answer (report_of r);
      refusal = refusal_in x.answer;
    }

-- what holds of each refusal, and of x and y, holds of two choices by the same tests
checked_both : {A B : Type 0} (P : Result A Refusal → Result B Refusal → Type 0) → ((r : Refusal) → P (Err r) (Err r)) → (cs : List Check) {x : A} {y : B}
    → P (Ok x) (Ok y) → P (checked cs x) (checked cs y)
unfolding checked
checked_both P h [] k = k
checked_both {A} {B} P h (c ∷ cs) {x} {y} k = go c.0 (checked_both P h cs k)
  where
    go : (b : Bool) {v : Result A Refusal} {w : Result B Refusal} → P v w → P (cond b (Err c.1) v) (cond b (Err c.1) w)
    go true p = h c.1
    go false p = p

cond_same : {A : Type 0} (b : Bool) (x : A) → cond b x x ≡ x
cond_same true x = refl
cond_same false x = refl

-- an open that is accepted opens, and no other request does
open_opens : (opened : Bool) (n : Network) (c d : ℕ) (t : Part) → opened_after opened (open_move n c d t) ≡ (is_ok (open_move n c d t) || opened)
unfolding open_move
open_opens opened n c d t = checked_either (λ (m : Move). opened_after opened m ≡ (is_ok m || opened)) (λ r. refl) _ (λ e. refl)

step_opens : (opened : Bool) (n : Network) (standing : ℕ → ℕ → Bool) (k : ℕ) (t : Part) → opened_after opened (step_move n standing k t) ≡ opened
unfolding stepped
step_opens opened n standing k t = step_either n standing k t (λ o m. opened_after opened m ≡ opened) (λ o r. refl) (λ at s e p. refl)

send_opens : (opened : Bool) (w : Sender) (tag : ℕ) (t : Part) → opened_after opened (send_move w tag t) ≡ opened
unfolding send_move
send_opens opened w tag t = checked_either (λ (m : Move). opened_after opened m ≡ opened) (λ r. refl) _ (λ e. refl)

close_opens : (opened : Bool) (t : Part) → opened_after opened (close_move t) ≡ opened
unfolding close_move
close_opens opened t = checked_either (λ (m : Move). opened_after opened m ≡ opened) (λ r. refl) _ (λ e. refl)

drop_opens : (opened : Bool) (e : ℕ) (t : Part) → opened_after opened (drop_move e t) ≡ opened
unfolding drop_move
drop_opens opened e t = checked_either (λ (m : Move). opened_after opened m ≡ opened) (λ r. refl) _ (λ e. refl)

-- an open and a send move no rows
open_still : (users : List ℕ) (n : Network) (c d : ℕ) (t : Part) → users_after users (open_move n c d t) ≡ users
unfolding open_move
open_still users n c d t = checked_either (λ (m : Move). users_after users m ≡ users) (λ r. refl) _ (λ e. refl)

send_still : (users : List ℕ) (w : Sender) (tag : ℕ) (t : Part) → users_after users (send_move w tag t) ≡ users
unfolding send_move
send_still users w tag t = checked_either (λ (m : Move). users_after users m ≡ users) (λ r. refl) _ (λ e. refl)

module _ (s : State) (u : ℕ) where
  -- where the part and the users stay, the network alone may change
  abbrev staying : Result Answer Refusal → Network → Turned
  staying a n = record { answer = a; opened = s.opened; network = n; users = s.users; part = load s u }

  stays : (a : Result Answer Refusal) (n : Network) → state_with s u (staying a n) ≡ (accepted s n).state
  stays a n = rw (store_loaded s u)

  -- one answer
  abbrev reply_with : Turned → Reply
  reply_with x = record { state = state_with s u x; lines = answer x.answer; refusal = refusal_in x.answer }

  -- the network n where it is (ok)
  abbrev given_with : Network → Result Answer Refusal → Reply
  given_with n a = reply_with (staying a (cond (answers_ok a) n s.network))

  refused_whole : (r : Refusal) (n : Network) → one_answer (refused s r) ≡ given_with n (Err r)
  refused_whole r n = rw (stays (Err r) s.network)

  -- a node or route call, with these tests and this network
  given_whole : (cs : List Check) (n : Network) → one_answer (network_turn s (checked cs n)) ≡ given_with n (checked cs Answer.Ok)
  given_whole cs n =
      checked_both (λ (x : Result Network Refusal) (a : Result Answer Refusal). one_answer (network_turn s x) ≡ given_with n a)
      (λ r. refused_whole r n) cs (rw (stays (Ok Answer.Ok) n))

  -- a session's move, by what it leaves of what all sessions share
  performed_whole : (m : Move) (opened : Bool) → opened_after s.opened m ≡ opened → (users : List ℕ) → users_after s.users m ≡ users
      → one_answer (performed s u m)
      ≡ reply_with
      (record {
        answer = answer_in m;
        opened = opened;
        network = cond (answers_ok (answer_in m)) s.network s.network;
        users = users;
        part = part_after (load s u) m;
      })
  unfolding performed store changed
  performed_whole (Err r) opened eo users eu = rw (← eo, ← eu) (refused_whole r s.network)
  performed_whole (Ok m) opened eo users eu = rw (← eo, ← eu, cond_same (answers_ok (Ok m.answer)) s.network)

-- what `Calls` says of a line that was read is what `Turn` says of it in pieces
pub turn_whole : (s : State) (r : Asked) → replied_to s r ≡ reply_of s r (turned s.opened s.network s.users (load s (session_of r)) r)
unfolding requested requested_of part_with opened_with users_with node_turn route_turn
turn_whole s (Ok (Node a k has needs)) = given_whole s 1 _ _
turn_whole s (Ok (Route a b n)) = given_whole s 1 _ _
turn_whole s (Ok (Open u c d)) =
    let t = load s u.0 in
    performed_whole s u.0 _ _ (open_opens s.opened s.network c d t) _ (open_still s.users s.network c d t)
turn_whole s (Ok (Step u k)) = performed_whole s u.0 _ _ (step_opens s.opened s.network _ k.0 (load s u.0)) _ refl
turn_whole s (Ok (Send u w tag)) =
    let t = load s u.0 in
    performed_whole s u.0 _ _ (send_opens s.opened w tag t) _ (send_still s.users w tag t)
turn_whole s (Ok (Close u)) = performed_whole s u.0 _ _ (close_opens s.opened (load s u.0)) _ refl
turn_whole s (Ok Show) = rw (stays s 1 (Ok Answer.Ok) s.network)
turn_whole s (Ok Net) = rw (stays s 1 (Ok Answer.Ok) s.network)
turn_whole s (Ok (Drop u e)) = performed_whole s u.0 _ _ (drop_opens s.opened e (load s u.0)) _ refl
turn_whole s (Err r) = refused_whole s 1 r s.network

-- ---- one call of a state that is held in pieces

-- what a turn leaves is stored in the state, and among the parts
module _ {s : State} {parts : List Part} (hs : Sized s) (h : Parts s parts) (u : ℕ) (hu : Numbered u) (x : Turned) (hx : Whole x.part) where
  each_stored : (v : ℕ) → v < 8 → (t : Part) → get_or (set parts (u - 1) x.part) v t ≡ load (store s u x.part) (v + 1)
  each_stored v k t = go (ℕ_discrete v (u - 1))
    where
      go : Dec (v ≡ u - 1) → get_or (set parts (u - 1) x.part) v t ≡ load (store s u x.part) (v + 1)
      go (yes e) =
          let w : v + 1 ≡ u = omega arith in
          rw (w, e) (get_or-set_same parts (u - 1) x.part t (omega (arith, h.many)) ∙ sym (load_stored s hs x.part hx u hu))
      go (no e) =
          get_or-set_other parts (u - 1) v x.part t e
          ∙ h.each v k t
          ∙ sym (load_others s hs x.part hx (v + 1) u (omega arith) hu (λ w. e (omega arith)))

  left_held : Held (state_with s u x) x.opened x.network (set parts (u - 1) x.part) x.users
  unfolding load
  left_held =
      record { opens = refl; network = refl; own = record { many = length-set parts (u - 1) x.part ∙ h.many; each = each_stored }; shared = refl }

  left_sized : length x.users ≡ 2048 → Sized (state_with s u x)
  left_sized k = omega (arith, store_sized s hs x.part hx u hu)

-- the pieces that the code has after the call hold the state that the call leaves
pub record Further (s : State) (r : Asked) (n : Network) (parts : List Part) (x : Turned) : Type 0 where
  pub sized : Sized (replied_to s r).state
  pub held : Held (replied_to s r).state x.opened x.network (set parts (session_of r - 1) x.part) x.users
  pub lines : (replied_to s r).lines ≡ lines_as n x.users x.answer (report_of r)

-- no line changes how many users are counted
after_length : (users : List ℕ) (m : Move) → length (users_after users m) ≡ length users
after_length users (Err r) = refl
after_length users (Ok m) =
    let c = m.change in
    fold_length one_more c.came (lowered users c.went) ∙ fold_length one_less c.went users

with_length : (n : Network) (users : List ℕ) (t : Part) (q : request.Request) → length (users_with n users t q) ≡ length users
unfolding users_with
with_length n users t (Node a k has needs) = refl
with_length n users t (Route a b next) = refl
with_length n users t (Open u c d) = refl
with_length n users t (Step u k) = after_length users (step_move n (stands users false) k.0 t)
with_length n users t (Send u w tag) = refl
with_length n users t (Close u) = after_length users (close_move t)
with_length n users t Show = refl
with_length n users t Net = refl
with_length n users t (Drop u e) = after_length users (drop_move e t)

users_length : (n : Network) (users : List ℕ) (t : Part) (p : Asked) → length (users_of n users t p) ≡ length users
users_length n users t (Ok q) = with_length n users t q
users_length n users t (Err r) = refl

-- and it leaves a part whole
after_whole : (t : Part) → Whole t → (m : Move) → FairMove t m → Whole (part_after t m)
after_whole t h (Err r) f = h
after_whole t h (Ok m) f = f.whole

with_whole : (n : Network) (users : List ℕ) (t : Part) → Whole t → (q : request.Request) → Whole (part_with n users t q)
unfolding part_with
with_whole n users t h (Node a k has needs) = h
with_whole n users t h (Route a b next) = h
with_whole n users t h (Open u c d) = after_whole t h _ (fair_open t h n c d)
with_whole n users t h (Step u k) = after_whole t h _ (fair_step t h n (stands users false) k.0)
with_whole n users t h (Send u w tag) = after_whole t h _ (fair_send t h w tag)
with_whole n users t h (Close u) = after_whole t h _ (fair_close t h)
with_whole n users t h Show = h
with_whole n users t h Net = h
with_whole n users t h (Drop u e) = after_whole t h _ (fair_drop t h e)

part_whole : (n : Network) (users : List ℕ) (t : Part) → Whole t → (p : Asked) → Whole (part_of n users t p)
part_whole n users t h (Ok q) = with_whole n users t h q
part_whole n users t h (Err r) = h

module _ {s : State} {opened : Bool} {n : Network} {parts : List Part} {users : List ℕ} (hs : Sized s) (h : Held s opened n parts users) where
  pub held_further : (r : Asked) → Numbered (session_of r) → (x : Turned) (z : Part)
      → x ≡ turned opened n users (get_or parts (session_of r - 1) z) r → Further s r n parts x
  held_further r hu x z ex = rw (← h.network) go
    where
      part : get_or parts (session_of r - 1) z ≡ load s (session_of r)
      part =
          let e : session_of r - 1 + 1 ≡ session_of r = omega arith in
          rw e at (h.own.each (session_of r - 1) (omega arith) z)

      same : x ≡ turned s.opened s.network s.users (load s (session_of r)) r
      same = rw (ex, part, h.opens, h.network, h.shared)

      whole : Whole x.part
      whole = rw same (part_whole s.network s.users (load s (session_of r)) (load_whole s hs (session_of r) hu) r)

      reply : replied_to s r ≡ reply_of s r x
      reply = rw same (turn_whole s r)

      size : length x.users ≡ 2048
      size = rw (same, users_length) hs.users

      go : Further s r s.network parts x
      go =
          let e = ap (λ (y : Reply). y.state) reply in
          record {
            sized = rw e (left_sized hs h.own (session_of r) hu x whole size);
            held = rw e (left_held hs h.own (session_of r) hu x whole);
            lines = ap (λ (y : Reply). y.lines) reply;
          }

-- ---- pieces determine the state

-- two lists that are the same in each of k windows of n places are the same up to there
front_same : {A : Type 0} (n : ℕ) (l m : List A) (k : ℕ) → ((u : ℕ) → u < k → take n (drop (n * u) l) ≡ take n (drop (n * u) m))
    → take (n * k) l ≡ take (n * k) m
front_same n l m zero h = rw mul-zero
front_same n l m (suc k) h =
    rw (mul-suc, take-add (n * k) n l, take-add (n * k) n m, front_same n l m k (λ u w. h u (omega arith)), h k (omega arith))

-- a table of eight windows, where they stand as `load` has them
table_same : {A : Type 0} (n : ℕ) (l m : List A) → length l ≤ n * 8 → length m ≤ n * 8
    → ((u : ℕ) → u < 8 → take n (drop (n * (u + 1 - 1)) l) ≡ take n (drop (n * (u + 1 - 1)) m)) → l ≡ m
table_same n l m hl hm h =
    sym (take_all (n * 8) l hl) ∙ front_same n l m 8 (λ u w. rw (add-sub_cancel u 1) at (h u w)) ∙ take_all (n * 8) m hm

-- the state, its tables being those of any other that is in the same pieces
pub held_whole : {s r : State} {opened : Bool} {n : Network} {parts : List Part} {users : List ℕ} → Sized s → Sized r
    → Held s opened n parts users → Parts r parts
    → record { opened = opened; network = n; sessions = r.sessions; items = r.items; rows = r.rows; users = users } ≡ s
unfolding load
held_whole {s} {r} hs hr h k = rw (← h.opens, ← h.network, ← h.shared, sessions, items, rows)
  where
    same : (u : ℕ) → u < 8 → load r (u + 1) ≡ load s (u + 1)
    same u w = sym (k.each u w (load s 1)) ∙ h.own.each u w (load s 1)

    sessions : r.sessions ≡ s.sessions
    sessions =
        ext_get_or blank_session r.sessions s.sessions (omega arith)
        (λ u w. rw (add-sub_cancel u 1) at (ap (λ (t : Part). t.session) (same u (omega arith))))

    items : r.items ≡ s.items
    items = table_same 16 r.items s.items (omega arith) (omega arith) (λ u w. ap (λ (t : Part). t.items) (same u w))

    rows : r.rows ≡ s.rows
    rows = table_same 32 r.rows s.rows (omega arith) (omega arith) (λ u w. ap (λ (t : Part). t.rows) (same u w))
