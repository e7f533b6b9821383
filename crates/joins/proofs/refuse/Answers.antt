-- A refusal's line has room.
use Rattle.std.proofs.Common.{refl}
use Rattle.joins.proofs.JoinCases.{line_front}
use Rattle.joins.proofs.refuse.Goals as goal

pub returns : goal.returns
returns c = record { output = line_front c.write-written.ensures c.requires; status = refl }
