-- Assumes nothing.
use Rattle.printing.proofs.Texts.{◌⟫◌}
use Rattle.compare.proofs.in_words.say_numbered.Goals as goal

pub returns : goal.returns
returns c = c.say_word.ensures ⟫ c.say.ensures ⟫ c.say_number.ensures
