-- In stage 3, or not. Assumes nothing.
use mathlib.Core.Path.{sym, ◌∙◌}
use borrow.Author.Tests.{ne_eqb}
use Rattle.base.proofs.Tests.{and-true}
use Rattle.account.proofs.range.ended.Goals as goal

pub returns-then-stage-eq3 : goal.returns-then-stage-eq3
returns-then-stage-eq3 c = rw c.if-stage-eq3.true (c.numbered.ensures ∙ sym (and-true _))

pub returns : goal.returns
returns c = rw (ne_eqb _ 3 c.if-stage-eq3.false) c.unrefused.ensures
