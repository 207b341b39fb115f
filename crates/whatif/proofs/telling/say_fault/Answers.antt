-- By the fault. Assumes nothing.
use Rattle.printing.proofs.Texts.{◌⟫◌}
use Rattle.whatif.specs.Told.{fault_text}
use Rattle.whatif.proofs.telling.say_fault.Goals as goal

pub returns-in-TooLong : goal.returns-in-TooLong
unfolding fault_text
returns-in-TooLong c = rw c.in-TooLong.is c.say.ensures

pub returns-in-TooFew : goal.returns-in-TooFew
unfolding fault_text
returns-in-TooFew c = rw c.in-TooFew.is c.say-in-TooFew.ensures

pub returns-in-TooMany : goal.returns-in-TooMany
unfolding fault_text
returns-in-TooMany c = rw c.in-TooMany.is (c.say-in-TooMany.ensures ⟫ (rw c.word.ensures at c.say_quoted.ensures))

pub returns-in-NoChange : goal.returns-in-NoChange
unfolding fault_text
returns-in-NoChange c = rw c.in-NoChange.is ((rw c.word-in-NoChange.ensures at c.say_quoted-in-NoChange.ensures) ⟫ c.say-in-NoChange.ensures)

pub returns-in-NoNumber : goal.returns-in-NoNumber
unfolding fault_text
returns-in-NoNumber c = rw c.in-NoNumber.is c.say_wrong_number.ensures
