-- One text after the other. Assumes nothing.
use Rattle.printing.proofs.Texts.{◌⟫◌}
use Rattle.page.specs.Style.{style_text}
use Rattle.page.proofs.style.say_style.Goals as goal

pub returns : goal.returns
unfolding style_text
returns c = c.say_type.ensures
    ⟫ c.say_tables.ensures
    ⟫ c.say_narrow.ensures
    ⟫ c.say_print.ensures
