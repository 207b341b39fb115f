use native.Mathlib.Omega.{arith}
use borrow.Author.Tests.{eq-eqb, ne_eqb}
use Rattle.sheet.proofs.remarks.one_if_feed.Goals as goal

pub returns-then-b-eq10 : goal.returns-then-b-eq10
returns-then-b-eq10 c = record { value = rw (eq-eqb _ 10 c.if-b-eq10.true); upper_bound = omega arith }

pub returns-else-b-eq10 : goal.returns-else-b-eq10
returns-else-b-eq10 c = record { value = rw (ne_eqb _ 10 c.if-b-eq10.false); upper_bound = omega arith }
