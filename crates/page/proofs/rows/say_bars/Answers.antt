-- One text after the other. Assumes nothing.
use Rattle.printing.proofs.Texts.{◌⟫◌}
use Rattle.page.specs.Parts.{bars_text}
use Rattle.page.proofs.rows.say_bars.Goals as goal

pub returns : goal.returns
unfolding bars_text
returns c = c.say.ensures
    ⟫ c.say_number.ensures
    ⟫ c.say-2.ensures
    ⟫ c.say_bar.ensures
    ⟫ c.say-3.ensures
