use Rattle.compare.proofs.PartnerRecords.{Taking}
use Rattle.compare.proofs.moved.by_partners.Given as goal

abbrev pub invariant-loop-i : goal.invariant-loop-i
invariant-loop-i l = Taking l.xs l.m l.ys l.n l.places l.links l.at l._i
