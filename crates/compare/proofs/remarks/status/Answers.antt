use mathlib.Core.Path.{refl}
use Rattle.compare.proofs.remarks.status.Goals as goal

pub returns-then-read-written : goal.returns-then-read-written
returns-then-read-written c = rw c.if-read-written.true refl

pub returns-else-read-written : goal.returns-else-read-written
returns-else-read-written c = rw c.if-read-written.false refl
