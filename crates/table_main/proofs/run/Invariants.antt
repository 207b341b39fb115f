-- File after file. Assumes nothing.
use Rattle.std.proofs.Common.{length, ◌≡◌}
use Rattle.table_main.proofs.run.Given as goal

abbrev pub invariant-loop-i : goal.invariant-loop-i
invariant-loop-i g l = length l.book ≡ length l.initial.book
