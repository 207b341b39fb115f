-- One text after another. Assumes nothing.
use Rattle.printing.proofs.Texts.{◌⟫◌}
use Rattle.sheet.proofs.Places.{place_same}
use Rattle.sheet.proofs.faults.say_row.Goals as goal

pub returns : goal.returns
returns c = let spot = c.bad_column-spot.ensures in
    c.say.ensures ⟫ c.say_number.ensures ⟫ (rw (place_same spot c.rest_of.ensures) at c.say_place.ensures)
