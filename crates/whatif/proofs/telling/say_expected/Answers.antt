-- A piece of the table. Assumes nothing.
use Rattle.whatif.specs.Told.{ranges}
use Rattle.printing.proofs.Texts.{◌⟫◌}
use Rattle.whatif.proofs.telling.say_expected.Goals as goal

pub returns : goal.returns
unfolding ranges
returns c = c.say.ensures ⟫ (rw c.part.ensures at c.say-2.ensures)
