-- Assumes nothing.
use Rattle.printing.proofs.Texts.{says-none}
use Rattle.compare.proofs.in_words.say_between.Goals as goal

pub returns-then-any : goal.returns-then-any
returns-then-any c = rw c.if-any.true c.say.ensures

pub returns : goal.returns
returns c = rw c.if-any.false says-none
