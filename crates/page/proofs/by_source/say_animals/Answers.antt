-- One text after the other. Assumes nothing.
use Rattle.printing.proofs.Texts.{◌⟫◌}
use Rattle.page.specs.Parts.{animals_text}
use Rattle.page.proofs.by_source.say_animals.Goals as goal

pub returns : goal.returns
unfolding animals_text
returns c = c.say.ensures
    ⟫ c.say_source.ensures
    ⟫ c.say_source-2.ensures
    ⟫ c.say_source-3.ensures
    ⟫ c.say_source-4.ensures
