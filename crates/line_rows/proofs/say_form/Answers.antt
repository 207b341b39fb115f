-- One text after the other. Assumes nothing.
use Rattle.printing.proofs.Texts.{◌⟫◌}
use Rattle.line_rows.proofs.say_form.Goals as goal

pub returns : goal.returns
returns c = c.say.ensures ⟫ c.say-2.ensures ⟫ c.say-3.ensures ⟫ c.say-4.ensures
