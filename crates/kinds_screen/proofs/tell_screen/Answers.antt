-- The invariant: saying the rows that are left makes all after the first line. Assumes nothing.
use native.Mathlib.Omega.{arith}
use Rattle.printing.proofs.Texts.{◌⟫◌, says-none}
use Rattle.kinds_screen.specs.Screen.{screen_text}
use Rattle.kinds_screen.proofs.Steps.{one-row, no_row}
use Rattle.kinds_screen.proofs.tell_screen.Goals as goal

pub loop-row-init : goal.loop-row-init
loop-row-init c = λ end p. p

pub loop-row-preserved : goal.loop-row-preserved
loop-row-preserved c = λ end p. c.loop-row.invariant end (rw (one-row c.loop-row.row (omega arith)) (c.say_row.ensures ⟫ p))

pub returns : goal.returns
unfolding screen_text
returns c = c.say.ensures ⟫ c.loop-row.invariant c.loop-row.text (rw (no_row c.loop-row.row (omega arith)) says-none)
