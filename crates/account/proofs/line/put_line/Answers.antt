-- The line's numbers are its figures. Assumes nothing.
use Rattle.account.proofs.line.put_line.Goals as goal

pub returns : goal.returns
returns c = rw (← c.listed.ensures) c.put_line.ensures
