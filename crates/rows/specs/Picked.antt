-- The rows of one establishment, or the others, picked out of a session's. Cited by `picked`, `rows_of` and `other_rows`. Assumes nothing.
use Rattle.std.specs.Prelude.{◌+◌, ◌≡◌, Bool, cond, length, set}
use Rattle.std.specs.Borrow.{Bor}
use Rattle.std.specs.Fn.{Shared, FnReturnsAt}
use Rattle.std.proofs.lemmas.List.Edits.{sets}
use Rattle.calculus.specs.declared.session.Row.{Row}
use Rattle.calculus.specs.declared.state.Part.{Part}
use Rattle.model.specs.Lists.{those}
use Rattle.model.specs.Row.{held}
use Rattle.rows.specs.declared.picked.Rows as rows

-- f, which g calls, answers of each row as p does
abbrev pub TestsAs : {F : Type 0} → Shared F (Bor Row × Unit {0}) Bool → F → (Row → Bool) → Type 0
TestsAs g f p = (r : Row) (b : Bool) → FnReturnsAt g f r b → b ≡ p r

-- the row r in the place behind those that are held
abbrev pub with_row : rows.Rows → Row → rows.Rows
with_row x r = record { places = set x.places x.held r; held = x.held + 1 }

-- the same, if p holds of it
abbrev pub with_picked : (Row → Bool) → rows.Rows → Row → rows.Rows
with_picked p x r = cond (p r) (with_row x r) x

-- those of the session's rows that p holds of, in their order, over its first places
abbrev pub picked_of : (Row → Bool) → Part → rows.Rows
picked_of p t = let picked = those p (held t) in record { places = sets t.rows 0 picked; held = length picked }
