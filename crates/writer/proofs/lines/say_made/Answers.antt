-- One text after another. Assumes nothing.
use Rattle.printing.proofs.Texts.{◌⟫◌}
use Rattle.writer.proofs.lines.say_made.Goals as goal

pub returns : goal.returns
returns c = rw c.sum.ensures at (c.say_pointed.ensures ⟫ c.say.ensures ⟫ c.say_pointed-2.ensures ⟫ c.say-2.ensures
    ⟫ c.say_pointed-3.ensures)
