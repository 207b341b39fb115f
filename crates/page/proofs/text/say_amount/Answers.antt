-- One text after the other. Assumes nothing.
use Rattle.printing.proofs.Texts.{◌⟫◌}
use Rattle.page.specs.Text.{amount_text}
use Rattle.page.proofs.text.say_amount.Goals as goal

pub returns : goal.returns
unfolding amount_text
returns c = c.say_threes.ensures
    ⟫ c.say.ensures
    ⟫ c.say_three.ensures
    ⟫ c.say-2.ensures
