-- Assumes nothing.
use mathlib.Core.Path.{◌≡◌}
use lib.ListN.{length}
use Rattle.compare_main.specs.Series.{Goes}
use Rattle.compare_main.proofs.run.Given as goal

abbrev pub invariant-loop : goal.invariant-loop
invariant-loop g l = (length l.text ≡ length l.initial.text) × Goes l.alike l.old l.new l.initial.w.cursor l.w.cursor
