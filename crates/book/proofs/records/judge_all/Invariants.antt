use Prim.Native.Nat.{◌-◌}
use lib.ListN.{length}
use Rattle.book.proofs.RecordRuns.{Running}
use Rattle.book.proofs.records.judge_all.Given as goal

abbrev pub invariant-loop-at : goal.invariant-loop-at
invariant-loop-at l = Running l.initial.account l.src l.initial.out l.out l.account l.at l.w

abbrev pub decreases-loop-at : goal.decreases-loop-at
decreases-loop-at l = length l.src - l.at
