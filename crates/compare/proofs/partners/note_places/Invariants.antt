use Rattle.compare.proofs.PartnerRecords.{Noting}
use Rattle.compare.proofs.partners.note_places.Given as goal

abbrev pub invariant-loop-i : goal.invariant-loop-i
invariant-loop-i l = Noting l.ys l.n l.places l.links l.at l.i
