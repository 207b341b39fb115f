use lib.ListN.{take}
use Rattle.book.specs.WholeRecords.{records_of}
use Rattle.compare.proofs.MovedRecords.{Asking}
use Rattle.compare.proofs.moved.all_as_often.Given as goal

abbrev pub invariant-loop-i : goal.invariant-loop-i
invariant-loop-i l = Asking l.xs (take l.n (records_of l.ys)) l.m l.at l._i
