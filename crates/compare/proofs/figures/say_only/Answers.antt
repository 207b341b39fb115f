-- Assumes nothing.
use Rattle.printing.proofs.Texts.{◌⟫◌}
use Rattle.compare.proofs.figures.say_only.Goals as goal

pub returns : goal.returns
returns c = c.say.ensures ⟫ c.say-2.ensures ⟫ c.say_figures.ensures
