use Rattle.printing.proofs.Texts.{◌⟫◌}
use Rattle.why.specs.Remarks.{refused_text}
use Rattle.why.proofs.remarks.say_refused.Goals as goal

pub returns : goal.returns
unfolding refused_text
returns c = c.say.ensures
    ⟫ c.say_number.ensures
    ⟫ c.say_place.ensures
    ⟫ c.say_position.ensures
    ⟫ c.say_numbers.ensures
    ⟫ c.say-2.ensures
