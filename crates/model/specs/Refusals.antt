-- A refused call changes nothing, and every call is refused, answered or gets a report. Proved in proofs/Refusals. Assumes nothing.
use Rattle.std.specs.Prelude.{ℕ, ◌≡◌, cond, List, Ok, Err, eqb}
use Rattle.std.proofs.Math.Option.{none, some}
use Rattle.calculus.specs.Answer.{refusal_number}
use Rattle.calculus.specs.declared.answer.Answer.{Answer}
use Rattle.calculus.specs.declared.answer.Refusal.{Refusal}
use Rattle.calculus.specs.declared.state.State.{State}
use Rattle.model.specs.NetworkText.{network_lines}
use Rattle.model.specs.Requests.{shown_lines}
use Rattle.model.specs.Calls.{Lines, answer, no_lines, Reply, reported, answered}

-- `(no n)` is written, but nothing with number 0
abbrev pub refusal_lines : Refusal → Lines
refusal_lines r = cond (eqb (refusal_number r) 0) no_lines (answer (Err r))

-- what a call on the state s can reply
pub data CanReply (s : State) : Reply → Type 0 where
  refused_with : (r : Refusal) → CanReply s (record { state = s; lines = refusal_lines r; refusal = some r })
  answered_with : (s' : State) (a : Answer) → CanReply s (record { state = s'; lines = answer (Ok a); refusal = none })
  shown_with : CanReply s (reported s (shown_lines s.users))
  given_back_with : CanReply s (reported s (network_lines s.network))

pub record Refusals : Type 0 where
  pub each : (s : State) (line : List ℕ) (size : ℕ) → CanReply s (answered s line size)
