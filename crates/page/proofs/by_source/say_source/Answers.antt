-- One text after the other. Assumes nothing.
use Rattle.printing.proofs.Texts.{◌⟫◌}
use Rattle.page.specs.Parts.{source_text}
use Rattle.page.proofs.by_source.say_source.Goals as goal

pub returns : goal.returns
unfolding source_text
returns c = rw c.is_below-up.ensures at (c.say_source_head.ensures
    ⟫ c.say_gases.ensures
    ⟫ c.say_together.ensures
    ⟫ c.say_bars.ensures)
