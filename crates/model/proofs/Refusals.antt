-- A refused call changes nothing, and every call is refused, answered or gets a report. Assumes nothing.
use mathlib.Core.Path.{◌≡◌, refl, sym, subst}
use mathlib.Core.Bool.{Bool, true, false, cond}
use mathlib.Core.Option.{Option, none, some}
use Prim.Native.Nat.{ℕ}
use lib.Dec.{ltb}
use Rattle.calculus.proofs.Tests.{either}
use Rattle.std.specs.Prelude as std
use Rattle.std.specs.Prelude.{Some, None, Result, Ok, Err}
use Rattle.calculus.specs.declared.answer.Answer.{Answer}
use Rattle.calculus.specs.declared.answer.Refusal.{Refusal}
use Rattle.calculus.specs.declared.answer.Refusal.TheVariants.{Short, Idle, NoItem}
use Rattle.calculus.specs.declared.network.Network.{Network}
use Rattle.calculus.specs.declared.packet.Slot.{Slot}
use Rattle.calculus.specs.declared.request.Request as request
use Rattle.calculus.specs.declared.state.Part.{Part}
use Rattle.calculus.specs.declared.state.State.{State}
use Rattle.calculus.specs.declared.state.Turn.{Turn}
use Rattle.forms.specs.Text.{Form}
use Rattle.forms.specs.Read.{read}
use Rattle.forms.specs.Request.{Asked, asked}
use Rattle.model.specs.State.{answer_of}
use Rattle.model.specs.Requests.{refused, node_turn, route_turn, Move, unused, open_move, stepped, step_at, step_move, send_move, close_move, drop_move, performed, network_turn}
use Rattle.model.specs.Row.{stands}
use Rattle.model.specs.Calls.{Lines, answered, requested, replied_to, one_answer}
use Rattle.model.specs.Refusals.{CanReply, refused_with, answered_with, shown_with, given_back_with, Refusals}
use Rattle.model.proofs.Checks.{IsWritten, checked_written}
use Rattle.model.proofs.Asked.{own_move, own_cases, requested_own, Meaning, refuses, gives_node, gives_route, of_session, shows, gives_back, meaning}

-- ---- one line

refusal_replies : (s : State) (r : Refusal) → IsWritten r → CanReply s (one_answer (refused s r))
refusal_replies s r w =
    subst (λ (l : Lines). CanReply s (record { state = s; lines = l; refusal = some r })) (rw w) (refused_with r)

abbrev Says : State → Turn → Type 0
Says s t = CanReply s (one_answer t)

-- of a node or route call
abbrev Gives : State → Result Network Refusal → Type 0
Gives s x = Says s (network_turn s x)

-- ---- a session's move

-- a refusal that is written, or an answer of one line
abbrev pub Answers : Move → Type 0
Answers (Err r) = IsWritten r
Answers (Ok m) = Unit

step_at_answers : (n : Network) (standing : ℕ → ℕ → Bool) (t : Part) (o : std.Option (ℕ × Slot)) → Answers (step_at n standing t o)
unfolding step_at
step_at_answers n standing t None = go (unused t)
  where
    go : (b : Bool) → IsWritten (cond b Idle NoItem)
    go true = refl
    go false = refl
step_at_answers n standing t (Some (at, s)) = checked_written Answers (λ r w. w) _ (refl, (refl, (refl, tt))) tt

pub move_answers : (n : Network) (standing : ℕ → ℕ → Bool) (q : request.Request) (t : Part) → Answers (own_move n standing q t)
unfolding open_move step_move send_move close_move drop_move
move_answers n standing q t =
    own_cases Answers n standing q t refl
    (λ c d. checked_written Answers (λ r w. w) _ (refl, (refl, (refl, (refl, (refl, tt))))) tt)
    (λ k. step_at_answers n standing t _)
    (λ w tag. checked_written Answers (λ r w. w) _ (refl, (refl, (refl, tt))) tt)
    (checked_written Answers (λ r w. w) _ (refl, tt) tt)
    (λ e. checked_written Answers (λ r w. w) _ (refl, (refl, (refl, tt))) tt)

performed_says : (s : State) (u : ℕ) (m : Move) → Answers m → Says s (performed s u m)
unfolding performed
performed_says s u (Err r) w = refusal_replies s r w
performed_says s u (Ok m) w = answered_with _ m.answer

-- ---- a call

asked_replies : (s : State) (o : Option Form) (r : Asked) → Meaning o r → CanReply s (replied_to s r)
unfolding requested node_turn route_turn
asked_replies s o r (refuses x w) = refusal_replies s x w
asked_replies s o r (gives_node a k has needs i j n) =
    checked_written (Gives s) (refusal_replies s) _ (refl, (refl, tt)) (answered_with _ Answer.Ok)
asked_replies s o r (gives_route a b next n) =
    checked_written (Gives s) (refusal_replies s) _ (refl, (refl, (refl, (refl, tt)))) (answered_with _ Answer.Ok)
asked_replies s o r (of_session q i h) =
    subst (CanReply s) (sym (requested_own s q i)) (performed_says s _ _ (move_answers s.network (stands s.users false) q _))
asked_replies s o r (shows h) = shown_with
asked_replies s o r (gives_back h) = given_back_with

pub refusals : Refusals
unfolding answered
refusals =
    record {
      each = λ s line size.
          either (CanReply s) (ltb size 65536) (λ e. refused_with Short) (λ e. asked_replies s (read line) (asked (read line)) (meaning (read line)));
    }
