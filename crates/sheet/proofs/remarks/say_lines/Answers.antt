use Rattle.printing.proofs.Texts.{◌⟫◌}
use Rattle.sheet.proofs.remarks.say_lines.Goals as goal

pub returns : goal.returns
returns c = c.say_number.ensures ⟫ c.say.ensures
