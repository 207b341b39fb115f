use Prim.Native.Nat.{◌-◌}
use lib.ListN.{length}
use Rattle.book.specs.Inner.{Reading}
use Rattle.book.proofs.State.feed.Given as goal

abbrev pub invariant-loop-i : goal.invariant-loop-i
invariant-loop-i l = Reading l.input l.initial.out l.initial.self l.out l.self l.i l.w

abbrev pub decreases-loop-i : goal.decreases-loop-i
decreases-loop-i l = length l.input - l.i
