-- A choice has its words. Assumes nothing.
use mathlib.Core.Path.{sym, ◌∙◌}
use Rattle.printing.proofs.Texts.{◌⟫◌}
use Rattle.writer.proofs.lines.say_fault.Goals as goal

pub returns-then-is_choice : goal.returns-then-is_choice
returns-then-is_choice c = rw (sym c.is_choice.ensures
    ∙ c.if-is_choice.true) (c.say.ensures ⟫ c.say_choices.ensures)

pub returns : goal.returns
returns c = let no = sym c.is_choice.ensures
    ∙ c.if-is_choice.false in rw no (rw no at (c.say_none.ensures ⟫ c.say_expected.ensures))
