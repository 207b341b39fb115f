-- One text after another. Assumes nothing.
use Rattle.printing.proofs.Texts.{◌⟫◌}
use Rattle.writer.proofs.lines.say_together.Goals as goal

pub returns : goal.returns
returns c = c.say_made.ensures ⟫ c.say.ensures ⟫ c.say_pointed.ensures ⟫ c.say-2.ensures
