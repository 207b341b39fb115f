use Rattle.printing.proofs.Texts.{◌⟫◌}
use Rattle.sheet.proofs.remarks.say_refused.Goals as goal

pub returns : goal.returns
returns c = c.say_people.ensures ⟫ c.say.ensures ⟫ c.say_number.ensures ⟫ c.say_row.ensures ⟫ c.say-2.ensures
