-- The turns count down. Assumes nothing.
use Rattle.std.proofs.Common.{length, ◌≡◌}
use Rattle.input_lines.proofs.Lines.next.Given as goal

abbrev pub invariant-loop-input : goal.invariant-loop-input
invariant-loop-input g l = (length l.line ≡ length l.initial.line) × (length l.part ≡ length l.initial.part)

abbrev pub decreases-loop-input : goal.decreases-loop-input
decreases-loop-input g l = l.input.turns
