-- One text after another. Assumes nothing.
use Rattle.printing.proofs.Texts.{◌⟫◌}
use Rattle.sheet.proofs.faults.say_first.Goals as goal

pub returns : goal.returns
returns c = c.say.ensures ⟫ (rw c.first_fault.ensures at c.say_words.ensures) ⟫ c.say-2.ensures
