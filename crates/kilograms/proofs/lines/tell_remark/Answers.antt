-- Nothing, or the number of the line. Assumes nothing.
use mathlib.Core.Path.{sym, ◌∙◌}
use Rattle.printing.proofs.Texts.{◌⟫◌, says-none}
use Rattle.kilograms.specs.Lines.{remark_text}
use Rattle.kilograms.proofs.lines.tell_remark.Goals as goal

pub returns-then-is_right : goal.returns-then-is_right
unfolding remark_text
returns-then-is_right c = rw (sym c.is_right.ensures ∙ c.if-is_right.true) says-none

pub returns : goal.returns
unfolding remark_text
returns c =
    rw (sym c.is_right.ensures ∙ c.if-is_right.false) (c.say.ensures ⟫ c.say_number.ensures ⟫ c.say-2.ensures)
