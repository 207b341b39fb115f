-- One line or more. Assumes nothing.
use borrow.Author.Tests.{eq-eqb, ne_eqb}
use Rattle.printing.proofs.Texts.{◌⟫◌}
use Rattle.writer.proofs.remarks.say_run_head.Goals as goal

pub returns-then-first-last : goal.returns-then-first-last
returns-then-first-last c = rw (eq-eqb _ _ c.if-first-last.true) c.say_line.ensures

pub returns : goal.returns
returns c = rw (ne_eqb _ _ c.if-first-last.false)
    (c.say.ensures ⟫ c.say_number.ensures ⟫ c.say-2.ensures ⟫ c.say_number-2.ensures ⟫ c.say-3.ensures)
