-- One text after another. Assumes nothing.
use Rattle.printing.proofs.Texts.{◌⟫◌}
use Rattle.writer.proofs.unusual.say_what.Goals as goal

pub returns : goal.returns
returns c = c.say_kind.ensures ⟫ c.say.ensures ⟫ c.say_field.ensures ⟫ c.say-2.ensures ⟫ c.say_value.ensures
    ⟫ c.say_unit.ensures
