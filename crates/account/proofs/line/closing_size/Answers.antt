-- The total alone, or a subtotal before it. Assumes nothing.
use mathlib.Core.Path.{refl}
use borrow.Author.Tests.{ne_eqb}
use Rattle.account.proofs.line.closing_size.Goals as goal

pub returns-then-group-eq0 : goal.returns-then-group-eq0
returns-then-group-eq0 c = rw c.if-group-eq0.true refl

pub returns-else-group-eq0 : goal.returns-else-group-eq0
returns-else-group-eq0 c = rw (ne_eqb _ 0 c.if-group-eq0.false) refl
