-- One text. Assumes nothing.
use Rattle.page.specs.Style.{narrow_style}
use Rattle.page.proofs.style.say_narrow.Goals as goal

pub returns : goal.returns
unfolding narrow_style
returns c = c.say.ensures
