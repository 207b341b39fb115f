-- Nothing without head. Assumes nothing.
use Rattle.std.proofs.Common.{eq-eqb, ne_eqb}
use Rattle.printing.proofs.Texts.{says-none}
use Rattle.page.specs.Parts.{per_head}
use Rattle.page.proofs.rows.say_per_head.Goals as goal

pub returns-then-head-eq0 : goal.returns-then-head-eq0
unfolding per_head
returns-then-head-eq0 c = rw (eq-eqb _ _ c.if-head-eq0.true) says-none

pub returns : goal.returns
unfolding per_head
returns c = rw (ne_eqb _ _ c.if-head-eq0.false) (rw c.round_div.ensures at c.say_kilograms.ensures)
