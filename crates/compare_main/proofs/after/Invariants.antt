-- The buffers keep their lengths. Assumes nothing.
use Rattle.std.proofs.Common.{length, ◌≡◌}
use Rattle.compare_main.proofs.after.Given as goal

abbrev pub invariant-loop : goal.invariant-loop
invariant-loop g l = (65536 ≡ length l.left) × (65536 ≡ length l.right)
