-- One text behind another. Assumes nothing.
use Rattle.printing.proofs.Texts.{◌⟫◌}
use Rattle.writer.proofs.lines.say_quoted.Goals as goal

pub returns : goal.returns
returns c = c.say.ensures ⟫ c.say_shown.ensures ⟫ c.say-2.ensures
