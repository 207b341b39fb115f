-- One text after another. Assumes nothing.
use Rattle.printing.proofs.Texts.{◌⟫◌}
use Rattle.writer.proofs.lines.say_values_here.Goals as goal

pub returns : goal.returns
returns c = c.say.ensures ⟫ c.say_number.ensures ⟫ c.say_here.ensures ⟫ c.say_names.ensures
