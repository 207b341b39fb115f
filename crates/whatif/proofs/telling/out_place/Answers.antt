-- By the code. Assumes nothing.
use Rattle.std.proofs.Common.{eq-eqb, ne_eqb}
use Rattle.whatif.proofs.telling.out_place.Goals as goal

pub returns-then-code-eq15 : goal.returns-then-code-eq15
returns-then-code-eq15 c = rw (eq-eqb c.args.code 15 c.if-code-eq15.true) c.changed_place.ensures

pub returns : goal.returns
returns c = rw (ne_eqb c.args.code 15 c.if-code-eq15.false) c.out_of_ration.ensures
