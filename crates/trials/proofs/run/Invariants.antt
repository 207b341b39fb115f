use lib.ListN.{length}
use mathlib.Core.Path.{◌≡◌}
use Rattle.trials.proofs.run.Given as goal

abbrev pub invariant-loop : goal.invariant-loop
invariant-loop g l =
    (length l.line ≡ length l.initial.line) × (length l.input ≡ length l.initial.input)
    × (length l.room ≡ length l.initial.room) × (length l.out ≡ length l.initial.out)
