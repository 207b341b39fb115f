-- By the test. Assumes nothing.
use Rattle.std.proofs.Common.{ne_eqb}
use Rattle.printing.proofs.Texts.{◌⟫◌}
use Rattle.table.proofs.rows.say_farm.Goals as goal

pub returns : goal.returns
returns c =
    rw (ne_eqb _ _ c.if-s-eq0.false)
    (c.say-2.ensures ⟫ c.say_number.ensures ⟫ c.say-3.ensures ⟫ c.say_number-2.ensures)
