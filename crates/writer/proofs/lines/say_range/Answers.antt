-- One text behind another. Assumes nothing.
use Rattle.printing.proofs.Texts.{◌⟫◌}
use Rattle.writer.proofs.lines.say_range.Goals as goal

pub returns : goal.returns
returns c = rw c.saturating_sub-i.ensures at
    (c.say.ensures ⟫ c.say_number.ensures ⟫ c.say-2.ensures ⟫ c.say_field.ensures ⟫ c.say-3.ensures
    ⟫ c.say_word.ensures ⟫ c.say_out_of_range.ensures)
