-- One text after another. Assumes nothing.
use Rattle.printing.proofs.Texts.{◌⟫◌}
use Rattle.writer.proofs.lines.say_kind_takes.Goals as goal

pub returns : goal.returns
returns c = c.say.ensures ⟫ c.say_kind.ensures ⟫ c.say-2.ensures ⟫ c.say_takes.ensures
