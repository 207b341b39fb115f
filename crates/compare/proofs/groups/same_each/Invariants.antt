-- Assumes nothing.
use Prim.Native.Nat.{◌-◌}
use lib.ListN.{length}
use Rattle.compare.proofs.NextGroups.{EachSame}
use Rattle.compare.proofs.groups.same_each.Given as goal

abbrev pub invariant-loop-p : goal.invariant-loop-p
invariant-loop-p l = EachSame l.old l.new l.p l.q

abbrev pub decreases-loop-p : goal.decreases-loop-p
decreases-loop-p l = length l.old - l.p.at
