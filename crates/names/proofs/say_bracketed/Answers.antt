-- Nothing where the field is no choice. Assumes nothing.
use mathlib.Core.Path.{sym, ◌∙◌}
use Rattle.printing.proofs.Texts.{◌⟫◌, says-none}
use Rattle.names.proofs.say_bracketed.Goals as goal

pub returns-then-not-is_choice : goal.returns-then-not-is_choice
returns-then-not-is_choice c = rw (sym c.is_choice.ensures ∙ c.if-not-is_choice.true) says-none

pub returns : goal.returns
returns c =
    rw (sym c.is_choice.ensures ∙ c.if-not-is_choice.false)
    (c.say.ensures ⟫ c.say_choices.ensures ⟫ c.say-2.ensures)
