-- The invariant: saying the fields that are left makes all after the first. Assumes nothing.
use native.Mathlib.Omega.{arith}
use Rattle.printing.proofs.Texts.{◌⟫◌, says-none}
use Rattle.kinds_screen.proofs.Steps.{one_field, no_field}
use Rattle.kinds_screen.proofs.say_all.Goals as goal

pub loop-i-init : goal.loop-i-init
loop-i-init c = λ end p. p

pub loop-i-preserved : goal.loop-i-preserved
loop-i-preserved c = λ end p. c.loop-i.invariant end (rw (one_field c.values_of-n.result c.loop-i.i c.args.row (omega arith)) (c.say_next.ensures ⟫ p))

pub returns : goal.returns
returns c = rw (← c.values_of-n.ensures)
    (c.say_one.ensures ⟫ c.loop-i.invariant c.loop-i.out (rw (no_field c.values_of-n.result c.loop-i.i c.args.row (omega arith)) says-none))
