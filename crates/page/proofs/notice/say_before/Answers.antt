-- One text after the other. Assumes nothing.
use Rattle.printing.proofs.Texts.{◌⟫◌}
use Rattle.page.specs.Parts.{before_text}
use Rattle.page.proofs.notice.say_before.Goals as goal

pub returns : goal.returns
unfolding before_text
returns c = c.say_head.ensures
    ⟫ c.say_warning.ensures
