use lib.ListN.{length}
use mathlib.Core.Path.{◌≡◌}
use Rattle.trials.proofs.take_part.Given as goal

abbrev pub invariant-loop-b : goal.invariant-loop-b
invariant-loop-b g l =
    (length l.line ≡ length l.initial.line) × (length l.input ≡ length l.initial.input)
    × (length l.room ≡ length l.initial.room) × (length l.out ≡ length l.initial.out)
