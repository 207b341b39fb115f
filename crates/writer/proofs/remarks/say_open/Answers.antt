-- An open book. Assumes nothing.
use borrow.Author.Tests.{eq-eqb, ne_eqb}
use Rattle.printing.proofs.Texts.{says-none}
use Rattle.writer.specs.Remarks.{open_text}
use Rattle.writer.proofs.remarks.say_open.Goals as goal

pub returns-then-a-ne1 : goal.returns-then-a-ne1
unfolding open_text
returns-then-a-ne1 c = rw (ne_eqb _ _ c.if-a-ne1.true) says-none

pub returns : goal.returns
unfolding open_text
returns c = rw (eq-eqb _ _ c.if-a-ne1.false) c.say_group.ensures
