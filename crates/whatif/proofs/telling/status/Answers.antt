-- By the counts. Assumes nothing.
use Rattle.whatif.proofs.telling.status.Goals as goal

pub returns-then-done-counts : goal.returns-then-done-counts
returns-then-done-counts c = rw c.if-done-counts.true

pub returns : goal.returns
returns c = rw c.if-done-counts.false
