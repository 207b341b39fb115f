-- Assumes nothing.
use mathlib.Core.Path.{refl}
use borrow.Author.Tests.{not-true, not-false}
use Rattle.compare.proofs.plans.moved_many.Goals as goal

pub returns-then-not-p : goal.returns-then-not-p
returns-then-not-p c = rw (not-true _ c.if-not-p.true) refl

pub returns : goal.returns
returns c = rw (not-false _ c.if-not-p.false) c.between.ensures
