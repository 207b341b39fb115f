-- One text after another. Assumes nothing.
use Rattle.printing.proofs.Texts.{◌⟫◌}
use Rattle.writer.proofs.remarks.say_counts.Goals as goal

pub returns : goal.returns
returns c = c.say_number.ensures ⟫ c.say.ensures ⟫ c.say_number-2.ensures ⟫ c.say-2.ensures ⟫ c.say_others.ensures
