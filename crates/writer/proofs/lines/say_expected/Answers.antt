-- Nothing where there is no such field. Assumes nothing.
use mathlib.Core.Path.{sym, ◌∙◌}
use Rattle.printing.proofs.Texts.{◌⟫◌, says-none}
use Rattle.writer.proofs.lines.say_expected.Goals as goal

pub returns-then-not-has_field : goal.returns-then-not-has_field
returns-then-not-has_field c = let none = sym c.has_field.ensures ∙ c.if-not-has_field.true in
    rw none says-none

pub returns : goal.returns
returns c = let some = sym c.has_field.ensures ∙ c.if-not-has_field.false in
    rw some (c.say.ensures ⟫ c.say_expected.ensures)
