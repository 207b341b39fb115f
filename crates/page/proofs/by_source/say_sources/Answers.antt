-- One text after the other. Assumes nothing.
use Rattle.printing.proofs.Texts.{◌⟫◌}
use Rattle.page.specs.Parts.{sources_text}
use Rattle.page.proofs.by_source.say_sources.Goals as goal

pub returns : goal.returns
unfolding sources_text
returns c = rw c.scale-sc.ensures.0 at (c.say_animals.ensures
    ⟫ c.say_land.ensures
    ⟫ c.say_sources_foot.ensures)
