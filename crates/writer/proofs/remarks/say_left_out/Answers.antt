-- One text after another. Assumes nothing.
use Rattle.printing.proofs.Texts.{◌⟫◌}
use Rattle.writer.proofs.remarks.say_left_out.Goals as goal

pub returns : goal.returns
returns c = c.say_more.ensures ⟫ c.say_more-2.ensures
