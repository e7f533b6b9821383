-- Each blank is what its call ensures.
use Rattle.tables.proofs.fresh.fresh.Goals as goal

pub returns : goal.returns
returns c = simp (c.blank_row-row.ensures, c.unused-session.ensures)
