-- One text after the other. Assumes nothing.
use Rattle.printing.proofs.Texts.{◌⟫◌}
use Rattle.page.specs.Bars.{bar_text}
use Rattle.page.proofs.bars.say_bar.Goals as goal

pub returns : goal.returns
unfolding bar_text
returns c = rw (
  c.place-p.ensures,
  c.place-q.ensures,
) at (c.say.ensures
    ⟫ c.say_rect.ensures
    ⟫ c.say-2.ensures
    ⟫ c.say_mark.ensures
    ⟫ c.say-3.ensures)
