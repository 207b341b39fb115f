-- The turns count down. Assumes nothing.
use Rattle.std.proofs.Common.{length, ◌≡◌}
use Rattle.writer_main.proofs.run.Given as goal

abbrev pub invariant-loop-input : goal.invariant-loop-input
invariant-loop-input g l = (length l.line ≡ length l.initial.line) × (4096 ≡ length l.part)

abbrev pub decreases-loop-input : goal.decreases-loop-input
decreases-loop-input g l = l.input.turns
