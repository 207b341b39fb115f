-- The parts, one behind the other. Assumes nothing.
use Rattle.printing.proofs.Texts.{◌⟫◌}
use Rattle.whatif.specs.Told.{wrong_number}
use Rattle.whatif.proofs.telling.say_wrong_number.Goals as goal

pub returns : goal.returns
unfolding wrong_number
returns c =
    c.say_column.ensures
    ⟫ c.say.ensures
    ⟫ (rw c.word.ensures at c.say_quoted.ensures)
    ⟫ c.say_no_number.ensures
    ⟫ (rw c.row_at-row.ensures at c.say_expected.ensures)
