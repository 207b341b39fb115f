-- By the test. Assumes nothing.
use mathlib.Core.Path.{refl}
use Rattle.writer.proofs.unusual.more_if.Goals as goal

pub returns-then-test : goal.returns-then-test
returns-then-test c = rw c.if-test.true c.one_more.ensures

pub returns-else-test : goal.returns-else-test
returns-else-test c = rw c.if-test.false refl
