-- One text after the other. Assumes nothing.
use Rattle.printing.proofs.Texts.{◌⟫◌}
use Rattle.page.specs.Parts.{together_text}
use Rattle.page.proofs.rows.say_together.Goals as goal

pub returns : goal.returns
unfolding together_text
returns c = c.say.ensures
    ⟫ c.say_kilograms.ensures
