use Rattle.printing.proofs.Texts.{◌⟫◌}
use Rattle.why.proofs.remarks.say_place.Goals as goal

pub returns : goal.returns
returns c = c.say.ensures
    ⟫ c.say_number.ensures
    ⟫ c.say-2.ensures
    ⟫ c.say_number-2.ensures
    ⟫ c.say-3.ensures
    ⟫ c.say_number-3.ensures
