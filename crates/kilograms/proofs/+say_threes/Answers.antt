-- By the digits that are left, which fall. Assumes nothing.
use native.Mathlib.Omega.{arith}
use Rattle.printing.proofs.Texts.{◌⟫◌, says-none}
use Rattle.kilograms.proofs.Threes.{threes-none, threes-last}
use Rattle.kilograms.proofs.+say_threes.Goals as goal

pub returns-then-n-eq0 : goal.returns-then-n-eq0
returns-then-n-eq0 t c = rw (threes-none c.args.digits.now c.args.n c.if-n-eq0.true) says-none

pub returns : goal.returns
returns t c =
    rw (threes-last c.args.digits.now c.args.n c.if-n-eq0.false (omega arith)) (
    rw (c.first_of.ensures, c.rest_of-from.ensures) at c.say.ensures ⟫ c.say_space.ensures ⟫ c.say_threes.ensures)
