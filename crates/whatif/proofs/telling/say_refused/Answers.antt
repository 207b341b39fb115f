-- The parts, one behind the other. Assumes nothing.
use Rattle.printing.proofs.Texts.{◌⟫◌}
use Rattle.whatif.specs.Told.{refused_text}
use Rattle.whatif.proofs.telling.say_refused.Goals as goal

pub returns : goal.returns
unfolding refused_text
returns c =
    c.say_start.ensures
    ⟫ c.say.ensures
    ⟫ c.say_number.ensures
    ⟫ c.say-2.ensures
    ⟫ c.say_out.ensures
    ⟫ c.say-3.ensures
