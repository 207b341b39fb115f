-- The total's numbers are the sums and CO2e. Assumes nothing.
use Rattle.account.proofs.line.put_total.Goals as goal

pub returns : goal.returns
returns c = rw (← c.listed.ensures, ← c.word.ensures) c.put_total.ensures
