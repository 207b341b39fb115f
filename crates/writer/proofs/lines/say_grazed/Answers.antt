-- One text after another. Assumes nothing.
use Rattle.printing.proofs.Texts.{◌⟫◌}
use Rattle.writer.proofs.lines.say_grazed.Goals as goal

pub returns : goal.returns
returns c = c.say.ensures ⟫ c.say_together.ensures
