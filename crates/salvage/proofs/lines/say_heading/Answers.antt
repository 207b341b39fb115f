use Rattle.printing.proofs.Texts.{◌⟫◌}
use Rattle.salvage.specs.Lines.{heading_text}
use Rattle.salvage.proofs.lines.say_heading.Goals as goal

pub returns : goal.returns
unfolding heading_text
returns c = c.say.ensures ⟫
    c.say_number.ensures ⟫ c.say-2.ensures
