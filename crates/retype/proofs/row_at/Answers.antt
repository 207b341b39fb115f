-- Version and kind byte, and the row that they have. Assumes nothing.
use Rattle.retype.proofs.row_at.Goals as goal

pub returns : goal.returns
returns c = c.row_of-row.ensures
