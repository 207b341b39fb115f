-- One text. Assumes nothing.
use Rattle.page.specs.Parts.{counted_text}
use Rattle.page.proofs.rest.say_counted.Goals as goal

pub returns : goal.returns
unfolding counted_text
returns c = c.say.ensures
