-- The line buffer keeps its length. Assumes nothing.
use Rattle.std.proofs.Common.{length, ◌≡◌}
use Rattle.writer_main.proofs.take_part.Given as goal

abbrev pub invariant-loop : goal.invariant-loop
invariant-loop g l = length l.line ≡ length l.initial.line
