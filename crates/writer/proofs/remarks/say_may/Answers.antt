-- One text behind another. Assumes nothing.
use Rattle.printing.proofs.Texts.{◌⟫◌}
use Rattle.writer.proofs.remarks.say_may.Goals as goal

pub returns : goal.returns
returns c = c.say.ensures ⟫ c.say_number.ensures ⟫ c.say-2.ensures ⟫ c.say-3.ensures
