-- One text after the other. Assumes nothing.
use Rattle.printing.proofs.Texts.{◌⟫◌}
use Rattle.page.specs.Parts.{total_text}
use Rattle.page.proofs.head.say_total.Goals as goal

pub returns : goal.returns
unfolding total_text
returns c = c.say.ensures
    ⟫ c.say_kilograms.ensures
    ⟫ c.say-2.ensures
