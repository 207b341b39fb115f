-- By the kind. Assumes nothing.
use mathlib.Core.Path.{refl}
use borrow.Author.Tests.{eq-eqb, ne_eqb}
use Rattle.writer.proofs.unusual.who_for.Goals as goal

pub returns-then-e-eq-GRAZING : goal.returns-then-e-eq-GRAZING
returns-then-e-eq-GRAZING c = rw (eq-eqb _ _ c.if-e-eq-GRAZING.true) refl

pub returns : goal.returns
returns c = rw (ne_eqb _ _ c.if-e-eq-GRAZING.false) refl
