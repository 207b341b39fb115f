-- Assumes nothing.
use Rattle.printing.proofs.Texts.{◌⟫◌, says-none}
use Rattle.compare.proofs.in_words.say_other.Goals as goal

pub returns-then-alone : goal.returns-then-alone
returns-then-alone c = rw c.if-alone.true says-none

pub returns : goal.returns
returns c = rw c.if-alone.false (c.say.ensures ⟫ c.say_value.ensures)
