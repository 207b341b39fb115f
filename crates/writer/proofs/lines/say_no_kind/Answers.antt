-- One text behind another. Assumes nothing.
use Rattle.printing.proofs.Texts.{◌⟫◌}
use Rattle.writer.proofs.lines.say_no_kind.Goals as goal

pub returns : goal.returns
returns c = c.say.ensures ⟫ c.say_word.ensures ⟫ c.say-2.ensures ⟫ c.say_kinds.ensures ⟫ c.say-3.ensures
