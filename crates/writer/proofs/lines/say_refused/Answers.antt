-- One text after another. Assumes nothing.
use Rattle.printing.proofs.Texts.{◌⟫◌}
use Rattle.writer.proofs.lines.say_refused.Goals as goal

pub returns : goal.returns
returns c = c.say.ensures ⟫ c.say_number.ensures ⟫ c.say_ground.ensures
