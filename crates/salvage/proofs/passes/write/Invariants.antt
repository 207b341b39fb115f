use Prim.Native.Nat.{◌-◌}
use lib.ListN.{length}
use Rattle.salvage.proofs.OnePass.{Writing}
use Rattle.salvage.proofs.passes.write.Given as goal

abbrev pub invariant-loop-at : goal.invariant-loop-at
invariant-loop-at l = Writing l.damaged l.initial.book l.initial.list l.book l.list l.s l.at l.w l.v

abbrev pub decreases-loop-at : goal.decreases-loop-at
decreases-loop-at l = length l.damaged - l.at
