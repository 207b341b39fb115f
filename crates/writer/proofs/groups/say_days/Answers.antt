-- Nothing where there are no days. Assumes nothing.
use borrow.Author.Tests.{eq-eqb, ne_eqb}
use Rattle.writer.specs.Remarks.{days_text}
use Rattle.printing.proofs.Texts.{◌⟫◌, says-none}
use Rattle.writer.proofs.groups.say_days.Goals as goal

pub returns-then-days-eq0 : goal.returns-then-days-eq0
unfolding days_text
returns-then-days-eq0 c = rw (eq-eqb _ _ c.if-days-eq0.true) says-none

pub returns : goal.returns
unfolding days_text
returns c = rw (ne_eqb _ _ c.if-days-eq0.false)
    (c.say_between.ensures ⟫ c.say_kind.ensures ⟫ c.say.ensures ⟫ c.say_number.ensures ⟫ c.say-2.ensures
    ⟫ c.say_of_year.ensures)
