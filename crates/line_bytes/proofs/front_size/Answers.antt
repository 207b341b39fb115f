-- `line_bytes::front_size` meets its contract.
-- Assumes nothing.
use borrow.Author.Tests.{eq-eqb, ne_eqb}
use Rattle.line_bytes.proofs.front_size.Goals as goal

pub returns-then-s : goal.returns-then-s
returns-then-s c = rw (eq-eqb _ _ c.if-s.true)

pub returns-else-s : goal.returns-else-s
returns-else-s c = rw (ne_eqb _ _ c.if-s.false)
