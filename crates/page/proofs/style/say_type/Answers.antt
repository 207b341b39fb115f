-- One text. Assumes nothing.
use Rattle.page.specs.Style.{type_style}
use Rattle.page.proofs.style.say_type.Goals as goal

pub returns : goal.returns
unfolding type_style
returns c = c.say.ensures
