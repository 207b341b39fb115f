-- A heading or the close. Assumes nothing.
use Rattle.printing.proofs.Texts.{says-none}
use Rattle.writer.specs.Remarks.{ended_text}
use Rattle.writer.proofs.remarks.say_ended.Goals as goal

pub returns-then-kind : goal.returns-then-kind
unfolding ended_text
returns-then-kind c = rw c.if-kind.true c.say_group.ensures

pub returns : goal.returns
unfolding ended_text
returns c = rw c.if-kind.false says-none
