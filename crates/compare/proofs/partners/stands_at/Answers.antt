use Rattle.compare.proofs.PartnerRecords.{stands-none, stands-some}
use Rattle.compare.proofs.partners.stands_at.Goals as goal

pub returns-then-ys-at : goal.returns-then-ys-at
returns-then-ys-at c = stands-none _ _ _ c.if-ys-at.true

pub returns : goal.returns
returns c = let s = c.args in
    stands-some _ s.ys.now _ s.at _ c.rest_of.ensures c.times.ensures
