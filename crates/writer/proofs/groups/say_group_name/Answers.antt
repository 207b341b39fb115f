-- One text after another. Assumes nothing.
use Rattle.printing.proofs.Texts.{◌⟫◌}
use Rattle.writer.proofs.groups.say_group_name.Goals as goal

pub returns : goal.returns
returns c = c.say.ensures ⟫ c.say_number.ensures ⟫ c.say-2.ensures
