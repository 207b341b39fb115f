-- One text after another. Assumes nothing.
use Rattle.printing.proofs.Texts.{◌⟫◌}
use Rattle.sheet.proofs.faults.say_place.Goals as goal

pub returns : goal.returns
returns c = let fault = rw c.column_of.ensures.value at c.cell_fault-fault.ensures in
    c.say.ensures
    ⟫ c.say_name.ensures
    ⟫ c.say-2.ensures
    ⟫ c.say_cell.ensures
    ⟫ c.say-3.ensures
    ⟫ (rw fault at c.say_words.ensures)
    ⟫ c.say-4.ensures
