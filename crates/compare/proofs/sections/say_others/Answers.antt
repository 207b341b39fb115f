-- Assumes nothing.
use borrow.Author.Tests.{eq-eqb, ne_eqb}
use Rattle.printing.proofs.Texts.{◌⟫◌, says-none}
use Rattle.compare.specs.Sections.{others_text}
use Rattle.compare.proofs.sections.say_others.Goals as goal

pub returns-then-n-eq0 : goal.returns-then-n-eq0
unfolding others_text
returns-then-n-eq0 c = rw (eq-eqb _ _ c.if-n-eq0.true) says-none

pub returns-then-n-eq1 : goal.returns-then-n-eq1
unfolding others_text
returns-then-n-eq1 c = rw (ne_eqb _ _ c.if-n-eq0.false, eq-eqb _ _ c.if-n-eq1.true) c.say.ensures

pub returns : goal.returns
unfolding others_text
returns c = rw (ne_eqb _ _ c.if-n-eq0.false, ne_eqb _ _ c.if-n-eq1.false) (c.say_number.ensures ⟫ c.say-2.ensures)
