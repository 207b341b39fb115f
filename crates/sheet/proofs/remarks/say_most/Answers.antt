use Rattle.printing.proofs.Texts.{◌⟫◌}
use Rattle.sheet.proofs.remarks.say_most.Goals as goal

pub returns : goal.returns
returns c = c.say.ensures ⟫ c.say_number.ensures ⟫ c.say-2.ensures
