use borrow.Author.Tests.{eq-eqb, ne_eqb}
use Rattle.printing.proofs.Texts.{◌⟫◌}
use Rattle.why.specs.Remarks.{lack_text}
use Rattle.why.proofs.remarks.say_lack.Goals as goal

pub returns-then-n-eq1 : goal.returns-then-n-eq1
unfolding lack_text
returns-then-n-eq1 c = rw (eq-eqb _ _ c.if-n-eq1.true) (
    c.say.ensures
    ⟫ c.say_number.ensures
    ⟫ c.say-then-n-eq1.ensures)

pub returns : goal.returns
unfolding lack_text
returns c = rw (ne_eqb _ _ c.if-n-eq1.false) (
    c.say.ensures
    ⟫ c.say_number.ensures
    ⟫ c.say-2.ensures)
