-- Assumes nothing.
use Rattle.compare.proofs.Sums.{line-short}
use Rattle.compare.proofs.places.last_line.Goals as goal

pub returns-then-n-le-TOTAL_SIZE : goal.returns-then-n-le-TOTAL_SIZE
returns-then-n-le-TOTAL_SIZE c = line-short _ c.if-n-le-TOTAL_SIZE.true

pub returns : goal.returns
returns c = c.rest_of.ensures
