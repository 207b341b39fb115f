use Prim.Native.Nat.{◌<◌}
use Rattle.trials.proofs.shown.power.Given as goal

abbrev pub invariant-loop-p : goal.invariant-loop-p
invariant-loop-p l = 0 < l.p

abbrev pub decreases-loop-p : goal.decreases-loop-p
decreases-loop-p l = l.p
