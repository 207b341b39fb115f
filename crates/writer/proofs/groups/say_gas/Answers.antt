-- Nothing where there is none. Assumes nothing.
use borrow.Author.Tests.{eq-eqb, ne_eqb}
use Rattle.printing.proofs.Texts.{◌⟫◌, says-none}
use Rattle.writer.specs.Remarks.{gas_text}
use Rattle.writer.proofs.groups.say_gas.Goals as goal

pub returns-then-grams-eq0 : goal.returns-then-grams-eq0
unfolding gas_text
returns-then-grams-eq0 c = rw (eq-eqb _ _ c.if-grams-eq0.true) says-none

pub returns : goal.returns
unfolding gas_text
returns c = rw (ne_eqb _ _ c.if-grams-eq0.false) (c.say.ensures ⟫ c.say_pointed.ensures ⟫ c.say-2.ensures ⟫ c.say_a_head.ensures)
