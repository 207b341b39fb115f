-- One text after another. Assumes nothing.
use Rattle.printing.proofs.Texts.{◌⟫◌}
use Rattle.writer.proofs.remarks.say_others.Goals as goal

pub returns : goal.returns
returns c = c.say_number.ensures ⟫ c.say.ensures ⟫ c.say_number-2.ensures ⟫ c.say-2.ensures ⟫ c.say_number-3.ensures ⟫ c.say-3.ensures
