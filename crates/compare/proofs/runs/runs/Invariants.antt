-- Assumes nothing.
use lib.ListN.{drop}
use Rattle.compare.proofs.Pairs.{Pairing}
use Rattle.walk.specs.Walk.{entries_after}
use Rattle.compare.proofs.runs.runs.Given as goal

abbrev pub invariant-loop-k : goal.invariant-loop-k
invariant-loop-k l = Pairing l.old l.new (entries_after l.initial.a (drop l.initial.at l.old)) (entries_after l.initial.b (drop l.initial.to l.new))
    l.many l.a l.b l.at l.to l.u l._k
