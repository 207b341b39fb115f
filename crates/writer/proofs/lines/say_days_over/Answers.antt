-- One text after another. Assumes nothing.
use Rattle.printing.proofs.Texts.{◌⟫◌}
use Rattle.writer.proofs.lines.say_days_over.Goals as goal

pub returns : goal.returns
returns c = rw c.used_days-before.ensures at (c.say.ensures ⟫ c.say_together.ensures)
