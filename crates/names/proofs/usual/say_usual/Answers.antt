use Rattle.printing.proofs.Texts.{◌⟫◌}
use Rattle.names.specs.Usual.{usual_text}
use Rattle.names.proofs.usual.say_usual.Goals as goal

pub returns : goal.returns
unfolding usual_text
returns c =
    rw (c.unwrap_or-u.ensures, c.usual_range.ensures) at (
    c.say.ensures
    ⟫ c.say_for.ensures
    ⟫ c.say-2.ensures
    ⟫ c.say_value.ensures
    ⟫ c.say_to.ensures
    )
