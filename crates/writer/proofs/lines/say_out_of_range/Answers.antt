-- One text behind another. Assumes nothing.
use Rattle.printing.proofs.Texts.{◌⟫◌}
use Rattle.writer.proofs.lines.say_out_of_range.Goals as goal

pub returns : goal.returns
returns c = c.say.ensures ⟫ c.say_expected.ensures
