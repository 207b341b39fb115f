-- Kilograms or nothing, and a line end. Assumes nothing.
use mathlib.Core.Path.{sym, ◌∙◌}
use Rattle.printing.proofs.Texts.{◌⟫◌}
use Rattle.kilograms.specs.Lines.{line_text}
use Rattle.kilograms.proofs.lines.tell_line.Goals as goal

pub returns-then-has_grams : goal.returns-then-has_grams
unfolding line_text
returns-then-has_grams c =
    rw (sym c.has_grams.ensures ∙ c.if-has_grams.true) (rw c.word.ensures at c.say_kilograms.ensures ⟫ c.say.ensures)

pub returns : goal.returns
unfolding line_text
returns c = rw (sym c.has_grams.ensures ∙ c.if-has_grams.false) c.say-2.ensures
