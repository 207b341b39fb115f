use Prim.Native.Nat.{◌-◌}
use lib.ListN.{length}
use Rattle.salvage.proofs.OnePass.{Measuring}
use Rattle.salvage.proofs.passes.measure.Given as goal

abbrev pub invariant-loop-at : goal.invariant-loop-at
invariant-loop-at l = Measuring l.damaged l.s l.at l.book l.dropped

abbrev pub decreases-loop-at : goal.decreases-loop-at
decreases-loop-at l = length l.damaged - l.at
