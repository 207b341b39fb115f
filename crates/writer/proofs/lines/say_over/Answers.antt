-- By the kind. Assumes nothing.
use borrow.Author.Tests.{eq-eqb, ne_eqb}
use Rattle.writer.proofs.lines.say_over.Goals as goal

pub returns-then-e-eq-CATTLE : goal.returns-then-e-eq-CATTLE
returns-then-e-eq-CATTLE c = rw (eq-eqb _ _ c.if-e-eq-CATTLE.true) c.say_shares.ensures

pub returns-then-e-eq-PIG : goal.returns-then-e-eq-PIG
returns-then-e-eq-PIG c = rw (
  ne_eqb _ _ c.if-e-eq-CATTLE.false,
  eq-eqb _ _
      c.if-e-eq-PIG.true,
) c.say_parts.ensures

pub returns : goal.returns
returns c = rw (ne_eqb _ _ c.if-e-eq-CATTLE.false, ne_eqb _ _ c.if-e-eq-PIG.false)
    c.say_grazed.ensures
