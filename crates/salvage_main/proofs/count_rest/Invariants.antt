-- The turns count down. Assumes nothing.
use Rattle.std.proofs.Common.{length, ◌≡◌}
use Rattle.salvage_main.proofs.count_rest.Given as goal

abbrev pub invariant-loop-r : goal.invariant-loop-r
invariant-loop-r g l = 65536 ≡ length l.part

abbrev pub decreases-loop-r : goal.decreases-loop-r
decreases-loop-r g l = l.r.turns
