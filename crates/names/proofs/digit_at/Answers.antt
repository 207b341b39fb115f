use native.Mathlib.Omega.{arith}
use Rattle.names.proofs.Lines.{no_digit}
use Rattle.names.proofs.digit_at.Goals as goal

pub returns-then-digits-i : goal.returns-then-digits-i
returns-then-digits-i c = no_digit c.args.digits.now c.args.i c.if-digits-i.true

pub overflow_cast-result : goal.overflow_cast-result
overflow_cast-result c = omega (arith, c.type_inv.digits c.args.i)
