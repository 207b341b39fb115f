-- One text behind another. Assumes nothing.
use Rattle.printing.proofs.Texts.{◌⟫◌}
use Rattle.writer.proofs.lines.say_either.Goals as goal

pub returns : goal.returns
returns c = c.say_fields.ensures ⟫ c.say.ensures ⟫ c.say_fields-2.ensures
