-- Assumes nothing.
use mathlib.Core.Path.{refl}
use Rattle.account.proofs.range.bounded.Goals as goal

pub returns : goal.returns
returns c = let co2 = c in rw (c.grams-2.ensures, co2.within.ensures, co2.grams.ensures) refl
