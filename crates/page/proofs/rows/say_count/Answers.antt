-- One text after the other. Assumes nothing.
use Rattle.printing.proofs.Texts.{◌⟫◌}
use Rattle.page.specs.Parts.{count_text}
use Rattle.page.proofs.rows.say_count.Goals as goal

pub returns : goal.returns
unfolding count_text
returns c = c.say.ensures
    ⟫ c.say_number.ensures
    ⟫ c.say-2.ensures
    ⟫ c.say_per_head.ensures
    ⟫ c.say-3.ensures
