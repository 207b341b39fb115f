-- The parts, one behind the other. Assumes nothing.
use Rattle.printing.proofs.Texts.{◌⟫◌}
use Rattle.whatif.proofs.telling.say_unread.Goals as goal

pub returns : goal.returns
returns c = c.say_start.ensures ⟫ c.say.ensures ⟫ c.say_fault.ensures ⟫ c.say-2.ensures
