-- A line, answered by the code. Cited by `answer_line`. Assumes nothing.
use Rattle.calculus.specs.declared.state.Part.{Part}
use Rattle.calculus.specs.declared.state.State.{State}
use Rattle.forms.specs.Request.{Asked}
use Rattle.model.specs.Turn.{Turned, turned}

-- what the line r answers and leaves, on the state s and its session's part t
abbrev pub line_turned : State → Part → Asked → Turned
line_turned s t r = turned s.opened s.network s.users t r
