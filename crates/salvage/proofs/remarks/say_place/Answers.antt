use Rattle.printing.proofs.Texts.{◌⟫◌}
use Rattle.salvage.proofs.remarks.say_place.Goals as goal

pub returns : goal.returns
returns c = c.say.ensures ⟫
    c.say_number.ensures ⟫ c.say-2.ensures
