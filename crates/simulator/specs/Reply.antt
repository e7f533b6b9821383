-- A reply as the code gives it. Cited by `call`. Assumes nothing.
use Rattle.std.specs.Prelude.{◌≡◌, List, Result, Ok, Err, ℕ, length}
use Rattle.std.proofs.Math.Option.{Option, none, some}
use Rattle.calculus.specs.declared.answer.Refusal.{Refusal}
use Rattle.model.specs.Calls as calls
use Rattle.model.specs.Calls.{lines_of, output_after}
use Rattle.simulator.specs.declared.call.Reply.{Reply}

-- "Each returns its number": the refusal, if refused
abbrev pub status_of : Option Refusal → Result Unit Refusal
status_of none = Ok tt
status_of (some r) = Err r

-- a reply with the number of bytes in place of the lines: the lines are in the lent output
abbrev pub reply_of : calls.Reply → Reply
reply_of m = record { state = m.state; written = length (lines_of m); status = status_of m.refusal }

-- the reply r and the output `left` are what m says, the lent output having been `out`
pub record Replies (out : List ℕ) (m : calls.Reply) (left : List ℕ) (r : Reply) : Type 0 where
  pub reply : r ≡ reply_of m
  pub output : left ≡ output_after out m
