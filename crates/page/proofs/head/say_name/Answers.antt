-- By whether the farm is known. Assumes nothing.
use Rattle.printing.proofs.Texts.{◌⟫◌}
use Rattle.page.specs.Parts.{name_text}
use Rattle.page.proofs.head.say_name.Goals as goal

pub returns-in_default : goal.returns-in_default
unfolding name_text
returns-in_default c = rw c.in_default.is c.say.ensures

pub returns : goal.returns
unfolding name_text
returns c = rw c.in-Some.is (c.say-2.ensures
    ⟫ c.say_number.ensures
    ⟫ c.say-3.ensures
    ⟫ c.say_number-2.ensures)
