-- Assumes nothing.
use native.Mathlib.Omega.{arith}
use Rattle.printing.proofs.Texts.{◌⟫◌}
use Rattle.compare.proofs.sections.say_span.Goals as goal

pub overflow_add-i : goal.overflow_add-i
overflow_add-i c = omega (arith, c.requires.1)

pub returns : goal.returns
returns c = c.say.ensures ⟫ c.say_number.ensures ⟫ c.say-2.ensures ⟫ c.say_number-2.ensures
