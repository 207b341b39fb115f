-- One of two texts. Assumes nothing.
use Rattle.page.specs.Parts.{title_text}
use Rattle.page.proofs.head.say_title.Goals as goal

pub returns-then-closed : goal.returns-then-closed
unfolding title_text
returns-then-closed c = rw c.if-closed.true c.say.ensures

pub returns : goal.returns
unfolding title_text
returns c = rw c.if-closed.false c.say-2.ensures
