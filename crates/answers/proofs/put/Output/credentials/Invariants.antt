-- What is left to be put is the text of the credentials from here on.
use Rattle.answers.proofs.Sets.{Left}
use Rattle.answers.proofs.Credentials.{text_from}
use Rattle.answers.proofs.put.Output.credentials.Given as goal

abbrev pub invariant-loop-n : goal.invariant-loop-n
invariant-loop-n l = Left l.initial.self (text_from l.held 0) l.self (text_from l.held l.n)
