use Rattle.printing.proofs.Texts.{◌⟫◌}
use Rattle.compare.proofs.remarks.say_with_hint.Goals as goal

pub returns : goal.returns
returns c = c.say_book.ensures ⟫ c.say_hint.ensures
