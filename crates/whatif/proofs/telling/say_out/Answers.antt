-- The parts, one behind the other. Assumes nothing.
use Rattle.printing.proofs.Texts.{◌⟫◌}
use Rattle.whatif.proofs.telling.say_out.Goals as goal

pub returns : goal.returns
returns c =
    c.say_changed.ensures
    ⟫ (rw c.out_place-place.ensures at c.say_column.ensures)
    ⟫ c.say.ensures
    ⟫ (rw (c.row_of-row.ensures, c.out_place-place.ensures) at c.say_expected.ensures)
