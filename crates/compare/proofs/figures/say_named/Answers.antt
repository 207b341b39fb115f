-- Assumes nothing.
use Rattle.printing.proofs.Texts.{◌⟫◌}
use Rattle.compare.proofs.figures.say_named.Goals as goal

pub returns : goal.returns
returns c = c.say.ensures ⟫ c.say_name.ensures ⟫ c.say-2.ensures ⟫ c.say_kilograms.ensures ⟫ c.say-3.ensures
