-- One text after the other. Assumes nothing.
use Rattle.printing.proofs.Texts.{◌⟫◌}
use Rattle.page.specs.Parts.{figures_text}
use Rattle.page.proofs.rows.say_figures.Goals as goal

pub returns : goal.returns
unfolding figures_text
returns c = c.say_cell.ensures
    ⟫ c.say_cell-2.ensures
    ⟫ c.say_cell-3.ensures
    ⟫ c.say_cell-4.ensures
    ⟫ c.say_cell-5.ensures
