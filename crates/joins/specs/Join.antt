-- A join as the code gives it. Cited by `join`. Assumes nothing.
use Rattle.std.specs.Prelude.{◌≡◌, List, ℕ, Option, Some, None}
use Rattle.std.specs.Borrow.{Bor}
use Rattle.std.proofs.Math.Option.{none, some}
use Rattle.model.specs.Join as join
use Rattle.model.specs.Join.{File}
use Rattle.simulator.specs.Reply.{status_of}
use Rattle.joins.specs.Front.{Front}
use Rattle.joins.specs.declared.JoinReply.{JoinReply}

-- a file that was read, or could not be
abbrev pub file_of : Option (Bor (List ℕ)) → File
file_of None = none
file_of (Some t) = some t.now

-- the answer r and the output `left` are what j says, the lent output having been `out`
pub record JoinReplies (out : List ℕ) (j : join.JoinReply) (left : List ℕ) (r : JoinReply) : Type 0 where
  pub output : Front out j.text left r.written
  pub status : r.status ≡ status_of j.refusal
