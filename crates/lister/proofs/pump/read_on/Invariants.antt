use mathlib.Core.Path.{◌≡◌}
use lib.ListN.{length}
use Rattle.lister.proofs.pump.read_on.Given as goal

abbrev pub invariant-loop-input : goal.invariant-loop-input
invariant-loop-input g l = (length l.text ≡ length l.initial.text) × (2048 ≡ length l.part)

abbrev pub decreases-loop-input : goal.decreases-loop-input
decreases-loop-input g l = l.input.turns
