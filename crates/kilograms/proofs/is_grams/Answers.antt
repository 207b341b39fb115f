-- The digits, and the number that they write. Assumes nothing.
use Rattle.kilograms.specs.Kilograms.{is_grams}
use Rattle.kilograms.proofs.is_grams.Goals as goal

pub returns : goal.returns
unfolding is_grams
returns c = rw (c.is_some.ensures, c.read_amount.ensures, c.digits_in-digits.ensures)
