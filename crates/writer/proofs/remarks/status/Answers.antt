-- By the test. Assumes nothing.
use mathlib.Core.Path.{refl}
use Rattle.writer.proofs.remarks.status.Goals as goal

pub returns-then-good-a : goal.returns-then-good-a
returns-then-good-a c = rw c.if-good-a.true refl

pub returns : goal.returns
returns c = rw c.if-good-a.false refl
