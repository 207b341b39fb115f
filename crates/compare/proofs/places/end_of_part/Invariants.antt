-- Assumes nothing.
use Prim.Native.Nat.{◌-◌}
use lib.ListN.{length}
use Rattle.compare.proofs.Walks.{InPart}
use Rattle.compare.proofs.places.end_of_part.Given as goal

abbrev pub invariant-loop-q : goal.invariant-loop-q
invariant-loop-q l = InPart l.book l.initial.q l.q

abbrev pub decreases-loop-q : goal.decreases-loop-q
decreases-loop-q l = length l.book - l.q.at
