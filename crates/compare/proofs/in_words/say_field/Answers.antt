-- Assumes nothing.
use Rattle.printing.proofs.Texts.{◌⟫◌}
use Rattle.compare.specs.Values.{field_text}
use Rattle.compare.proofs.in_words.say_field.Goals as goal

pub returns : goal.returns
unfolding field_text
returns c = c.say_label.ensures ⟫ c.say.ensures ⟫ c.say_value.ensures ⟫ c.say_unit.ensures ⟫ c.say_other.ensures
