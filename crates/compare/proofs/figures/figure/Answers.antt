-- Assumes nothing.
use Rattle.compare.proofs.Wordings.{figure-none, figure-some}
use Rattle.compare.proofs.figures.figure.Goals as goal

pub returns-then-line-at : goal.returns-then-line-at
returns-then-line-at c = figure-none c.args.line.now c.args.f c.if-line-at.true

pub returns : goal.returns
returns c = figure-some c.args.line.now c.args.f _ c.if-line-at.false c.be64.ensures
