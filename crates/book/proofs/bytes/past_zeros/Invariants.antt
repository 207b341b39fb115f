use Prim.Native.Nat.{◌-◌}
use mathlib.Core.Path.{◌≡◌}
use lib.ListN.{length, drop}
use Rattle.book.specs.State.{zeros}
use Rattle.book.proofs.bytes.past_zeros.Given as goal

abbrev pub invariant-loop-i : goal.invariant-loop-i
invariant-loop-i l = (length l.a ≡ 27) × (zeros (drop l.i l.a) ≡ zeros (drop l.n l.a))

abbrev pub decreases-loop-i : goal.decreases-loop-i
decreases-loop-i l = 27 - l.i
