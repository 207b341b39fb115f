-- One text after another. Assumes nothing.
use Rattle.printing.proofs.Texts.{◌⟫◌}
use Rattle.kinds_screen.proofs.say_next.Goals as goal

pub returns : goal.returns
returns c = c.say.ensures ⟫ c.say_one.ensures
