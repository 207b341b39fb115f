-- The walk goes through the book. Assumes nothing.
use Rattle.std.proofs.Common.{◌-◌, length}
use Rattle.table.proofs.Ends.{Going}
use Rattle.table.proofs.end_of.Given as goal

abbrev pub invariant-loop-at : goal.invariant-loop-at
invariant-loop-at l = Going l.book l.a l.at

abbrev pub decreases-loop-at : goal.decreases-loop-at
decreases-loop-at l = length l.book - l.at
