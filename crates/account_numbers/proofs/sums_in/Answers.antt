-- Six numbers. Assumes nothing.
use mathlib.Core.Path.{refl}
use Rattle.account_numbers.proofs.sums_in.Goals as goal

pub returns : goal.returns
returns c = rw (c.of-grazing.ensures, c.from_word-co2.ensures, c.of-n2o.ensures) refl
