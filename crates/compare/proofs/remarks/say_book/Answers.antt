use Rattle.printing.proofs.Texts.{◌⟫◌}
use Rattle.compare.proofs.remarks.say_book.Goals as goal

pub returns : goal.returns
returns c = c.say_word.ensures ⟫ c.say.ensures
