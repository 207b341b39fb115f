-- Nothing before the first heading. Assumes nothing.
use borrow.Author.Tests.{eq-eqb, ne_eqb}
use Rattle.printing.proofs.Texts.{◌⟫◌, says-none}
use Rattle.writer.specs.Remarks.{group_text}
use Rattle.writer.proofs.groups.say_group.Goals as goal

pub returns-then-h-eq0 : goal.returns-then-h-eq0
unfolding group_text
returns-then-h-eq0 c = rw (eq-eqb _ _ c.if-h-eq0.true) says-none

pub returns : goal.returns
unfolding group_text
returns c = rw (ne_eqb _ _ c.if-h-eq0.false)
    (c.say_group_name.ensures ⟫ c.say_head.ensures ⟫ c.say_all_days.ensures ⟫ c.say_gases.ensures ⟫ c.say.ensures)
