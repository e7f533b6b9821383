-- What is left to be put are the word's bytes from here on.
use Rattle.std.proofs.Common.{drop}
use Rattle.answers.proofs.Sets.{Left}
use Rattle.answers.proofs.put.Output.word.Given as goal

abbrev pub invariant-loop-byte : goal.invariant-loop-byte
invariant-loop-byte l = Left l.fn.self l.word l.self (drop l.byte-index l.word)
