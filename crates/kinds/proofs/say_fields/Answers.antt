-- The invariant: saying the fields that are left makes all. Assumes nothing.
use Prim.Native.Nat.{◌-◌}
use mathlib.Core.Path.{◌≡◌}
use Rattle.codec.proofs.Rows.{fields-few}
use native.Mathlib.Omega.{arith}
use Rattle.printing.proofs.Texts.{◌⟫◌, says-none}
use Rattle.kinds.proofs.Steps.{one_field, no_field}
use Rattle.kinds.proofs.say_fields.Goals as goal

pub loop-i-init : goal.loop-i-init
loop-i-init c = λ end p. p

pub say_field-requires : goal.say_field-requires
say_field-requires c = (c.requires, omega (arith, fields-few c.args.row, c.values_of-n.ensures))

pub loop-i-preserved : goal.loop-i-preserved
loop-i-preserved c = λ end p. c.loop-i.invariant end (rw (one_field c.values_of-n.result c.loop-i.i c.args.row (omega arith)) (c.say_field.ensures ⟫ p))

pub returns : goal.returns
returns c = let all : c.values_of-n.result - 0 ≡ c.values_of-n.result = omega arith in
    rw (← c.values_of-n.ensures)
    (rw all at (c.loop-i.invariant c.loop-i.out (rw (no_field c.values_of-n.result c.loop-i.i c.args.row (omega arith)) says-none)))
