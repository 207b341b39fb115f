-- One text after another. Assumes nothing.
use Rattle.printing.proofs.Texts.{◌⟫◌}
use Rattle.writer.proofs.groups.say_gases.Goals as goal

pub returns : goal.returns
returns c = rw c.grams-n2o.ensures at (c.say_gas.ensures ⟫ c.say_gas-2.ensures)
