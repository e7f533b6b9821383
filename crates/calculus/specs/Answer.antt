-- The number of each refusal and each loss, document 01's, and document 02's of a join and of a drop. Assumes nothing.
use Rattle.std.specs.Prelude.{ℕ}
use Rattle.calculus.specs.declared.answer.Refusal as refusal
use Rattle.calculus.specs.declared.answer.Refusal.TheVariants.{Short, Unreadable, Range, Double, Unknown, Late, Taken, Idle, Same, Gateway, Spent, NoItem, Waiting, Full, Clash, Unsorted, Busy, NoSuchTunnel}
use Rattle.calculus.specs.declared.answer.Loss as loss
use Rattle.calculus.specs.declared.answer.Loss.TheVariants.{Unprotected, HopLimit, NoRoute, NoTunnel, WrongTunnel, Exhausted}

-- the table's "No."
abbrev pub refusal_number : refusal.Refusal → ℕ
refusal_number Short = 0
refusal_number Unreadable = 1
refusal_number Range = 2
refusal_number Double = 3
refusal_number Unknown = 4
refusal_number Late = 5
refusal_number Taken = 6
refusal_number Idle = 7
refusal_number Same = 8
refusal_number Gateway = 9
refusal_number Spent = 10
refusal_number NoItem = 11
refusal_number Waiting = 12
refusal_number Full = 13
-- document 02, #106
refusal_number Clash = 14
refusal_number Unsorted = 15
-- #109: 17 is "no tunnel", which is a loss's name too
refusal_number Busy = 16
refusal_number NoSuchTunnel = 17

-- the number after "lost" in the rules of a step
abbrev pub loss_number : loss.Loss → ℕ
loss_number Unprotected = 1
loss_number HopLimit = 2
loss_number NoRoute = 3
loss_number NoTunnel = 4
loss_number WrongTunnel = 5
loss_number Exhausted = 6
