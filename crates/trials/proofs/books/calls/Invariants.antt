use Prim.Native.Nat.{◌≤◌}
use lib.ListN.{length}
use mathlib.Core.Path.{◌≡◌}
use Rattle.trials.proofs.books.calls.Given as goal

abbrev pub invariant-loop : goal.invariant-loop
invariant-loop g l =
    (l.i ≤ length l.input) × (length l.room ≡ length l.initial.room) × (length l.out ≡ length l.initial.out)
