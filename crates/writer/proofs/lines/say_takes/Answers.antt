-- The farm record has two versions. Assumes nothing.
use borrow.Author.Tests.{eq-eqb, ne_eqb}
use Rattle.printing.proofs.Texts.{◌⟫◌}
use Rattle.writer.proofs.lines.say_takes.Goals as goal

pub returns-then-kind-eq-FARM : goal.returns-then-kind-eq-FARM
returns-then-kind-eq-FARM c = rw (eq-eqb _ _ c.if-kind-eq-FARM.true) (rw (c.values_of.ensures, c.values_of-then-kind-eq-FARM.ensures) at
    (c.say_number.ensures ⟫ c.say.ensures ⟫ c.say_many.ensures))

pub returns : goal.returns
returns c = rw (ne_eqb _ _ c.if-kind-eq-FARM.false) (rw c.values_of-2.ensures at
    c.say_many-2.ensures)
