use mathlib.Core.Path.{◌≡◌}
use lib.ListN.{length, drop}
use Rattle.book.specs.State.{zeros}
use Rattle.book.proofs.bytes.zeroed.Given as goal

abbrev pub invariant-loop-i : goal.invariant-loop-i
invariant-loop-i l = (length l.a ≡ 27) × (zeros (drop l.n l.a) ≡ zeros (drop l.i l.a))
