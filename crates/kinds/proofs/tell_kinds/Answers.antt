-- The invariant: saying the rows that are left makes all after the header. Assumes nothing.
use native.Mathlib.Omega.{arith}
use Rattle.printing.proofs.Texts.{◌⟫◌, says-none}
use Rattle.kinds.specs.Kinds.{kinds_text}
use Rattle.kinds.proofs.Steps.{one-row, no_row}
use Rattle.kinds.proofs.tell_kinds.Goals as goal

pub loop-row-init : goal.loop-row-init
loop-row-init c = λ end p. p

pub loop-row-preserved : goal.loop-row-preserved
loop-row-preserved c = λ end p. c.loop-row.invariant end (rw (one-row c.loop-row.row (omega arith)) (c.say_fields.ensures ⟫ p))

pub returns : goal.returns
unfolding kinds_text
returns c = c.say.ensures ⟫ c.loop-row.invariant c.loop-row.text (rw (no_row c.loop-row.row (omega arith)) says-none)
