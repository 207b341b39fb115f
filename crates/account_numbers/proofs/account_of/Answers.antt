-- A part after the other. Assumes nothing.
use mathlib.Core.Path.{refl}
use Rattle.account_numbers.proofs.account_of.Goals as goal

pub returns : goal.returns
returns c =
    rw (c.refusal_in-refusal.ensures, c.sums_in-sums.ensures, c.used_in-used.ensures, c.subtotal_in-subtotal.ensures)
    (rw (c.heading_in-heading.ensures, c.farm_in-farm.ensures) refl)
