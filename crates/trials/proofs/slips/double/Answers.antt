use lib.Dec.{T}
use lib.Ieee.{nan_bits}
use mathlib.Core.Bool.{Bool, not}
use mathlib.Core.Path.{sym, subst}
use Rattle.trials.proofs.slips.double.Goals as goal

pub float_from_bits-result : goal.float_from_bits-result
unfolding nan_bits
float_from_bits-result c = subst (λ (b : Bool). T (not b)) (sym c.if-exponent-digits.false) tt
