use Rattle.printing.proofs.Texts.{◌⟫◌}
use Rattle.why.proofs.remarks.say_numbers.Goals as goal

pub returns-in-Some : goal.returns-in-Some
returns-in-Some c = rw (c.in-Some.is) (
    c.say.ensures
    ⟫ c.say_number.ensures
    ⟫ c.say-in-Some.ensures
    ⟫ c.say_number-in-Some.ensures)
