-- One text after another. Assumes nothing.
use Rattle.printing.proofs.Texts.{◌⟫◌}
use Rattle.writer.proofs.lines.say_count.Goals as goal

pub returns : goal.returns
returns c = c.say_kind_takes.ensures ⟫ c.say_values_here.ensures
