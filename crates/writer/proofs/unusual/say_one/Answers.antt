-- The first twenty. Assumes nothing.
use Rattle.printing.proofs.Texts.{says-none}
use Rattle.writer.proofs.unusual.say_one.Goals as goal

pub returns-then-is_unusual-count : goal.returns-then-is_unusual-count
returns-then-is_unusual-count c = rw (rw c.is_unusual.ensures at c.if-is_unusual-count.true)
    c.say_value_remark.ensures

pub returns : goal.returns
returns c = rw (rw c.is_unusual.ensures at c.if-is_unusual-count.false) says-none
