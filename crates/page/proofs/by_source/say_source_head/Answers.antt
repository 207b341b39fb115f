-- One text after the other. Assumes nothing.
use Rattle.printing.proofs.Texts.{◌⟫◌}
use Rattle.page.specs.Parts.{source_head}
use Rattle.page.proofs.by_source.say_source_head.Goals as goal

pub returns : goal.returns
unfolding source_head
returns c = c.say.ensures
    ⟫ c.say_number.ensures
    ⟫ c.say-2.ensures
    ⟫ c.say_source_name.ensures
    ⟫ c.say-3.ensures
    ⟫ c.say_words.ensures
    ⟫ c.say-4.ensures
