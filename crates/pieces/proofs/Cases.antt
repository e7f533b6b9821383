-- A round on small inputs, each way that it goes. Assumes nothing.
use mathlib.Core.Path.{◌≡◌, refl}
use mathlib.Core.Bool.{true, false}
use mathlib.Core.List.{[], ◌∷◌}
use lib.ListN.{replicate}
use Rattle.forms.specs.Line.{line_length}
use Rattle.model.specs.State.{fresh}
use Rattle.model.specs.Batch.{answered_lines}
use Rattle.pieces.specs.Progress.{started, answered_into, ended, advanced}

-- nothing came: the input is over, and both buffers stay
no_input : advanced started 0 (7 ∷ []) (8 ∷ [])
    ≡ record { progress = record { state = fresh; from = 0; to = 0; wants = false; over = true; written = 0 }; input = 7 ∷ []; out = 8 ∷ [] }
unfolding advanced ended
no_input = refl

-- `(s` came: more is wanted
no_newline : advanced started 2 (40 ∷ 115 ∷ 7 ∷ []) (8 ∷ [])
    ≡ record { progress = record { state = fresh; from = 0; to = 2; wants = true; over = false; written = 0 }; input = 40 ∷ 115 ∷ 7 ∷ []; out = 8 ∷ [] }
unfolding advanced answered_into answered_lines line_length
no_newline = refl

-- `(` and a newline came, and the output has no room for a call: the line stays for the next round
no_room : advanced started 2 (40 ∷ 10 ∷ 7 ∷ []) (8 ∷ [])
    ≡ record { progress = record { state = fresh; from = 0; to = 2; wants = false; over = false; written = 0 }; input = 40 ∷ 10 ∷ 7 ∷ []; out = 8 ∷ [] }
unfolding advanced answered_into answered_lines line_length
no_room = refl

-- a line that is too long already: 401 bytes of it are kept
long_line : (advanced started 402 (replicate 402 40) []).progress ≡ record { state = fresh; from = 0; to = 401; wants = true; over = false; written = 0 }
unfolding advanced answered_into answered_lines line_length
long_line = refl
