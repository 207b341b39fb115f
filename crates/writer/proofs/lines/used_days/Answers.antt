-- By the kind. Assumes nothing.
use mathlib.Core.Path.{refl}
use borrow.Author.Tests.{eq-eqb, ne_eqb}
use Rattle.writer.proofs.lines.used_days.Goals as goal

pub returns-then-kind-eq-ENTERIC : goal.returns-then-kind-eq-ENTERIC
returns-then-kind-eq-ENTERIC c = rw (eq-eqb _ _ c.if-kind-eq-ENTERIC.true) refl

pub returns-then-kind-eq-CATTLE : goal.returns-then-kind-eq-CATTLE
returns-then-kind-eq-CATTLE c = rw (ne_eqb _ _ c.if-kind-eq-ENTERIC.false, eq-eqb _ _ c.if-kind-eq-CATTLE.true) refl

pub returns : goal.returns
returns c = rw (ne_eqb _ _ c.if-kind-eq-ENTERIC.false, ne_eqb _ _ c.if-kind-eq-CATTLE.false) refl
