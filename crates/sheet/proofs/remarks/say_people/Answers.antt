-- The place, or the sentence. Assumes nothing.
use borrow.Author.Tests.{ne_eqb}
use Rattle.printing.proofs.Texts.{◌⟫◌}
use Rattle.sheet.proofs.remarks.say_people.Goals as goal

pub returns : goal.returns
returns c = rw (ne_eqb _ 20 c.if-code-eq20.false) (c.say_row_head.ensures ⟫ c.say_sentence.ensures ⟫ c.say.ensures)
