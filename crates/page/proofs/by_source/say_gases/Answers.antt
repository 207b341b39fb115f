-- One text after the other. Assumes nothing.
use Rattle.printing.proofs.Texts.{◌⟫◌}
use Rattle.page.specs.Parts.{gases_text}
use Rattle.page.proofs.by_source.say_gases.Goals as goal

pub returns : goal.returns
unfolding gases_text
returns c = c.say_cell.ensures
    ⟫ c.say_cell-2.ensures
    ⟫ c.say_cell-3.ensures
