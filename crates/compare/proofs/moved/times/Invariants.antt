use Rattle.compare.proofs.MovedRecords.{Counting}
use Rattle.compare.proofs.moved.times.Given as goal

abbrev pub invariant-loop-i : goal.invariant-loop-i
invariant-loop-i l = Counting l.r l.xs l.many l.at l._i l.n
