-- Assumes nothing.
use mathlib.Core.Path.{refl}
use borrow.Author.Rules.{rules}
use Rattle.compare_main.proofs.SeriesOn.{goes_none, goes_on}
use Rattle.compare_main.proofs.run.Goals as goal

pub loop-init : goal.loop-init
loop-init g c = (refl, goes_none _ _ _ _)

pub returns-then-eq-w : goal.returns-then-eq-w
returns-then-eq-w g c = c.loop.invariant.1

pub loop-preserved : goal.loop-preserved
loop-preserved g c = (search rules, goes_on _ _ _ _ _ _ c.loop.invariant.1 c.turn-w.ensures)

pub returns : goal.returns
returns g c = c.loop.invariant.1
