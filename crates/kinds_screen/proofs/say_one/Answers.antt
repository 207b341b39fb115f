-- One text after another. Assumes nothing.
use Rattle.printing.proofs.Texts.{◌⟫◌}
use Rattle.kinds_screen.proofs.say_one.Goals as goal

pub returns : goal.returns
returns c = c.say_field.ensures ⟫ c.say_expected.ensures
