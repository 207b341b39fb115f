-- X has the row of its change. Assumes nothing.
use Rattle.std.proofs.Common.{eq-eqb, ne_eqb}
use Rattle.whatif.proofs.telling.row_of.Goals as goal

pub returns-then-place-eq5 : goal.returns-then-place-eq5
returns-then-place-eq5 c = rw (eq-eqb c.args.place 5 c.if-place-eq5.true) c.number_row.ensures

pub returns : goal.returns
returns c = rw (ne_eqb c.args.place 5 c.if-place-eq5.false)
