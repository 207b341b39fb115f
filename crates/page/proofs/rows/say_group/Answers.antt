-- One text after the other. Assumes nothing.
use Rattle.printing.proofs.Texts.{◌⟫◌}
use Rattle.page.specs.Parts.{group_text}
use Rattle.page.proofs.rows.say_group.Goals as goal

pub returns : goal.returns
unfolding group_text
returns c = c.say_heading.ensures
    ⟫ c.say_count.ensures
    ⟫ c.say_figures.ensures
    ⟫ c.say_together.ensures
    ⟫ c.say_bars.ensures
