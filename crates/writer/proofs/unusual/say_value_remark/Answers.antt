-- One text after another. Assumes nothing.
use Rattle.printing.proofs.Texts.{◌⟫◌}
use Rattle.writer.specs.Unusual.{value_remark}
use Rattle.writer.proofs.unusual.say_value_remark.Goals as goal

pub returns : goal.returns
unfolding value_remark
returns c = c.say.ensures ⟫ c.say_number.ensures ⟫ c.say-2.ensures ⟫ c.say_what.ensures ⟫ c.say-3.ensures
    ⟫ c.say_usual.ensures ⟫ c.say-4.ensures
