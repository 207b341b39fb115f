-- One text. Assumes nothing.
use Rattle.page.specs.Style.{print_style}
use Rattle.page.proofs.style.say_print.Goals as goal

pub returns : goal.returns
unfolding print_style
returns c = c.say.ensures
