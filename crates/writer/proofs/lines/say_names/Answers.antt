-- The farm record has two versions. Assumes nothing.
use borrow.Author.Tests.{eq-eqb, ne_eqb}
use Rattle.writer.proofs.lines.say_names.Goals as goal

pub returns-then-kind-eq-FARM : goal.returns-then-kind-eq-FARM
returns-then-kind-eq-FARM c = rw (eq-eqb _ _ c.if-kind-eq-FARM.true) c.say_either.ensures

pub returns : goal.returns
returns c = rw (ne_eqb _ _ c.if-kind-eq-FARM.false) c.say_fields.ensures
