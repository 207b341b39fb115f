use Rattle.printing.proofs.Texts.{◌⟫◌}
use Rattle.salvage.proofs.remarks.say_ending.Goals as goal

pub returns-in-NoLength : goal.returns-in-NoLength
returns-in-NoLength c = rw c.in-NoLength.is (c.say-in-NoLength.ensures ⟫ c.say_number.ensures ⟫ c.say-in-NoLength-2.ensures)

pub returns-in-NotWhole : goal.returns-in-NotWhole
returns-in-NotWhole c = rw c.in-NotWhole.is c.say-in-NotWhole.ensures
