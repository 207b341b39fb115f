-- One text after another. Assumes nothing.
use Rattle.printing.proofs.Texts.{◌⟫◌}
use Rattle.writer.proofs.lines.say_no_value.Goals as goal

pub returns : goal.returns
returns c = rw c.word.ensures at (c.say.ensures ⟫ c.say_kind.ensures ⟫ c.say_field.ensures ⟫ c.say-2.ensures
    ⟫ c.say_word.ensures
    ⟫ c.say_fault.ensures)
