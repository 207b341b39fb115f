-- There was no heading, or there was one. Assumes nothing.
use borrow.Author.Tests.{ne_eqb, eq-eqb}
use Rattle.rules.proofs.lines.group_line.Goals as goal

pub returns-then-group-eq0 : goal.returns-then-group-eq0
returns-then-group-eq0 c = rw (eq-eqb _ 0 c.if-group-eq0.true) c.none.ensures

pub returns : goal.returns
returns c = rw (ne_eqb _ 0 c.if-group-eq0.false, ← c.group_figures-f.ensures) c.one.ensures
