use native.Mathlib.Omega.{arith}
use borrow.Author.Tests.{eq-eqb, ne_eqb}
use Rattle.desk.proofs.code_of.Goals as goal

pub returns-then-left-eq0 : goal.returns-then-left-eq0
returns-then-left-eq0 c = (rw (c.in-Closed.is, eq-eqb _ _ c.if-left-eq0.true), omega arith)

pub returns-else-left-eq0 : goal.returns-else-left-eq0
returns-else-left-eq0 c = (rw (c.in-Closed.is, ne_eqb _ _ c.if-left-eq0.false), omega arith)
