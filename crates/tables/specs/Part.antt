-- A session's part taken out of the tables and put back, for every number. Cited by `load` and `store`. Assumes nothing.
use Rattle.std.specs.Prelude.{cond, ℕ}
use Rattle.calculus.specs.Number.{is_session}
use Rattle.calculus.specs.declared.state.Part.{Part}
use Rattle.calculus.specs.declared.state.State.{State}
use Rattle.model.specs.State.{blank_part, load, store}

-- session u's part of s; a blank part where u is no session's number
abbrev pub loaded : State → ℕ → Part
loaded s u = cond (is_session u) (load s u) blank_part

-- s with t as session u's part; s where u is no session's number
abbrev pub stored : State → ℕ → Part → State
stored s u t = cond (is_session u) (store s u t) s
