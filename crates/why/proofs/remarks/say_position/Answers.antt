use borrow.Author.Tests.{ne_eqb}
use Rattle.printing.proofs.Texts.{◌⟫◌}
use Rattle.why.proofs.remarks.say_position.Goals as goal

pub returns : goal.returns
returns c = rw (ne_eqb _ _ c.if-field-eq0.false)
    (c.say.ensures ⟫ c.say_number.ensures)
