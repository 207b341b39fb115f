-- One kind behind another. Assumes nothing.
use Rattle.writer.specs.Remarks.{all_days}
use Rattle.printing.proofs.Texts.{◌⟫◌}
use Rattle.writer.proofs.groups.say_all_days.Goals as goal

pub returns-then-d : goal.returns-then-d
unfolding all_days
returns-then-d c = rw c.if-d.true c.say.ensures

pub returns : goal.returns
unfolding all_days
returns c = rw c.if-d.false (c.say_days.ensures ⟫ c.say_days-2.ensures ⟫ c.say_days-3.ensures)
