-- Assumes nothing.
use Prim.Native.Nat.{◌+◌, ◌-◌}
use native.Mathlib.Omega.{arith}
use Rattle.printing.proofs.Texts.{◌⟫◌}
use Rattle.compare.proofs.Wordings.{upper-half, kilograms-below, kilograms-plain}
use Rattle.compare.proofs.figures.say_kilograms.Goals as goal

pub overflow_add-w : goal.overflow_add-w
overflow_add-w c = omega (arith, upper-half c.is_signed.result c.args.w c.if-is_signed-w.true)

pub returns-then-is_signed-w : goal.returns-then-is_signed-w
returns-then-is_signed-w c = rw (kilograms-below c.args.f c.args.w _ c.is_signed.ensures (18446744073709551615 - c.args.w + 1) c.if-is_signed-w.true
    (omega (arith, upper-half c.is_signed.result c.args.w c.if-is_signed-w.true))) (c.say.ensures ⟫ c.say_pointed.ensures)

pub returns : goal.returns
returns c = rw (kilograms-plain c.args.f c.args.w _ c.is_signed.ensures c.if-is_signed-w.false) c.say_pointed-2.ensures
