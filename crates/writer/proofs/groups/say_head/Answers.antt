-- One text behind another. Assumes nothing.
use Rattle.printing.proofs.Texts.{◌⟫◌}
use Rattle.writer.proofs.groups.say_head.Goals as goal

pub returns : goal.returns
returns c = c.say_class.ensures ⟫ c.say.ensures ⟫ c.say_number.ensures ⟫ c.say-2.ensures
