-- One text. Assumes nothing.
use Rattle.page.specs.Parts.{exact_text}
use Rattle.page.proofs.rest.say_exact.Goals as goal

pub returns : goal.returns
unfolding exact_text
returns c = c.say.ensures
