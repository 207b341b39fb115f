-- Assumes nothing.
use Rattle.printing.proofs.Texts.{◌⟫◌}
use Rattle.compare.proofs.in_words.say_row.Goals as goal

pub returns : goal.returns
returns c = c.say.ensures ⟫ c.say_kind.ensures ⟫ c.say-2.ensures
