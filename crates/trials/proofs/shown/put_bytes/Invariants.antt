use lib.ListN.{length}
use mathlib.Core.Path.{◌≡◌}
use Rattle.trials.proofs.shown.put_bytes.Given as goal

abbrev pub invariant-loop-b : goal.invariant-loop-b
invariant-loop-b l = length l.out ≡ length l.initial.out
