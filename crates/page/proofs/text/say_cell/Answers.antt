-- One text after the other. Assumes nothing.
use Rattle.printing.proofs.Texts.{◌⟫◌}
use Rattle.page.specs.Text.{cell_text}
use Rattle.page.proofs.text.say_cell.Goals as goal

pub returns : goal.returns
unfolding cell_text
returns c = c.say.ensures
    ⟫ c.say-2.ensures
    ⟫ c.say-3.ensures
    ⟫ c.say_figure.ensures
    ⟫ c.say-4.ensures
