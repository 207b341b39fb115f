-- The walk goes through the book. Assumes nothing.
use Rattle.std.proofs.Common.{◌-◌, length}
use Rattle.page.proofs.Gathers.{Gathering}
use Rattle.page.proofs.sums.gather.Given as goal

abbrev pub invariant-loop-at : goal.invariant-loop-at
invariant-loop-at l = Gathering l.book l.kind l.a l.s l.at

abbrev pub decreases-loop-at : goal.decreases-loop-at
decreases-loop-at l = length l.book - l.at
