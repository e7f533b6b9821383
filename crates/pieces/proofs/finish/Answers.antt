-- The tail is answered, if there is one.
use Rattle.std.proofs.Common.{arith}
use Rattle.pieces.proofs.Rounds.{finish_call}
use Rattle.pieces.proofs.finish.Goals as goal

pub returns : goal.returns
returns c = finish_call _ c.args.from c.args.to _ _ c.requires.1 (λ e. omega arith) c.call-reply.ensures
