use mathlib.Core.Path.{refl}
use borrow.Author.Rules.{rules}
use borrow.Author.Tests.{eq-eqb, ne_eqb}
use Rattle.sheet.specs.Rows.{read_cell}
use Rattle.sheet.proofs.rows.read_cell.Goals as goal

pub returns-then-c-eq0 : goal.returns-then-c-eq0
unfolding read_cell
returns-then-c-eq0 c = rw (eq-eqb _ 0 c.if-c-eq0.true) (record { number = refl; rest = refl; inside = search rules })

pub returns-then-c : goal.returns-then-c
unfolding read_cell
returns-then-c c = rw (ne_eqb _ 0 c.if-c-eq0.false, c.if-c.true) c.signed_cell.ensures

pub returns : goal.returns
unfolding read_cell
returns c = rw (ne_eqb _ 0 c.if-c-eq0.false, c.if-c.false) c.unsigned_cell.ensures
