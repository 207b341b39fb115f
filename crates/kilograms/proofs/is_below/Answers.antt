-- Nothing is no sign. Assumes nothing.
use Rattle.kilograms.proofs.Tests.{none_below}
use Rattle.kilograms.proofs.is_below.Goals as goal

pub returns-then-word-eq0 : goal.returns-then-word-eq0
returns-then-word-eq0 c = none_below c.args.word.now c.if-word-eq0.true
