-- One text after the other. Assumes nothing.
use Rattle.printing.proofs.Texts.{◌⟫◌}
use Rattle.page.specs.Parts.{land_text}
use Rattle.page.proofs.by_source.say_land.Goals as goal

pub returns : goal.returns
unfolding land_text
returns c = c.say_source.ensures
    ⟫ c.say_source-2.ensures
    ⟫ c.say_source-3.ensures
