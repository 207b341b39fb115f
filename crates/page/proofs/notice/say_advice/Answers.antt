-- One of two texts. Assumes nothing.
use Rattle.page.specs.Parts.{advice_text}
use Rattle.page.proofs.notice.say_advice.Goals as goal

pub returns-then-refused : goal.returns-then-refused
unfolding advice_text
returns-then-refused c = rw c.if-refused.true c.say.ensures

pub returns : goal.returns
unfolding advice_text
returns c = rw c.if-refused.false c.say-2.ensures
