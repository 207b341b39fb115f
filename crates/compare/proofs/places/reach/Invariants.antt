-- Assumes nothing.
use Rattle.compare.proofs.Walks.{Reaching}
use Rattle.compare.proofs.places.reach.Given as goal

abbrev pub invariant-loop-i : goal.invariant-loop-i
invariant-loop-i l = Reaching l.book l.initial.q l.k l.q l._i
