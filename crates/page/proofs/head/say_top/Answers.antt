-- One text after the other. Assumes nothing.
use Rattle.printing.proofs.Texts.{◌⟫◌}
use Rattle.page.specs.Parts.{top_text}
use Rattle.page.proofs.head.say_top.Goals as goal

pub returns : goal.returns
unfolding top_text
returns c = c.say_head.ensures
    ⟫ c.say_total.ensures
    ⟫ c.say_groups_head.ensures
