-- The parts, one behind the other. Assumes nothing.
use Rattle.printing.proofs.Texts.{◌⟫◌}
use Rattle.whatif.proofs.telling.say_quoted.Goals as goal

pub returns : goal.returns
returns c = c.say.ensures ⟫ c.say_shown.ensures ⟫ c.say-2.ensures
