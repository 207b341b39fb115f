-- Nothing where there is no head. Assumes nothing.
use borrow.Author.Tests.{eq-eqb, ne_eqb}
use Rattle.printing.proofs.Texts.{◌⟫◌, says-none}
use Rattle.writer.proofs.groups.say_a_head.Goals as goal

pub returns-then-head-eq0 : goal.returns-then-head-eq0
returns-then-head-eq0 c = rw (eq-eqb _ _ c.if-head-eq0.true) says-none

pub returns : goal.returns
returns c = rw (ne_eqb _ _ c.if-head-eq0.false) (rw c.round_div.ensures at
    (c.say.ensures ⟫ c.say_pointed.ensures ⟫ c.say-2.ensures))
