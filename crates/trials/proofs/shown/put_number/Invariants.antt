use lib.ListN.{length}
use mathlib.Core.Path.{◌≡◌}
use Rattle.trials.proofs.shown.put_number.Given as goal

abbrev pub invariant-loop-p : goal.invariant-loop-p
invariant-loop-p l = length l.out ≡ length l.initial.out

abbrev pub decreases-loop-p : goal.decreases-loop-p
decreases-loop-p l = l.p
