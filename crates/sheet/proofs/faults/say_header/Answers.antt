-- The names are those of the header. Assumes nothing.
use native.Mathlib.Omega.{arith}
use mathlib.Core.Path.{◌∙◌}
use Rattle.printing.proofs.Texts.{◌⟫◌}
use Rattle.sheet.proofs.Plans.{header-fits}
use Rattle.sheet.proofs.Places.{names_at, names-end}
use Rattle.sheet.proofs.faults.say_header.Goals as goal

pub put_header-n-requires : goal.put_header-n-requires
put_header-n-requires c = omega (arith, header-fits)

pub overflow_sub-n : goal.overflow_sub-n
overflow_sub-n c = omega (arith, names-end c.put_header-n.ensures)

pub returns : goal.returns
returns c = let p = c.put_header-n.ensures in
    c.say.ensures ⟫ (rw (c.first_of.ensures ∙ names_at p) at c.say-2.ensures)
