-- The code is 7, or it is not. Assumes nothing.
use borrow.Author.Tests.{ne_eqb}
use Rattle.rules.proofs.refusals.stopped.Goals as goal

pub returns-then-code-eq7 : goal.returns-then-code-eq7
returns-then-code-eq7 c = rw c.if-code-eq7.true c.wrong.ensures

pub returns-else-code-eq7 : goal.returns-else-code-eq7
returns-else-code-eq7 c = rw (ne_eqb _ 7 c.if-code-eq7.false) c.wrong-else-code-eq7.ensures
