-- The parts, one behind the other. Assumes nothing.
use Rattle.printing.proofs.Texts.{◌⟫◌}
use Rattle.whatif.proofs.telling.say_start.Goals as goal

pub returns : goal.returns
returns c = c.say.ensures ⟫ c.say_number.ensures
