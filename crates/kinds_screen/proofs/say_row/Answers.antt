-- One text after another. Assumes nothing.
use Rattle.printing.proofs.Texts.{◌⟫◌}
use Rattle.kinds_screen.proofs.say_row.Goals as goal

pub returns : goal.returns
returns c = c.say_example.ensures ⟫ c.say.ensures ⟫ c.say_all.ensures ⟫ c.say-2.ensures
