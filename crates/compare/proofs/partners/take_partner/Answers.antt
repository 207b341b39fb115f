use Rattle.compare.proofs.PartnerRecords.{takes_none, takes-some}
use Rattle.compare.proofs.partners.take_partner.Goals as goal

pub returns-then-not-detail : goal.returns-then-not-detail
returns-then-not-detail c = takes_none _ _ _ _ c.requires.2

pub returns-in-Some : goal.returns-in-Some
returns-in-Some c = takes-some _ _ _ _ c.requires.2 _ _ _ c.requires.1 c.in-Some.ensures c.detail.ensures c.if-not-detail.false

pub returns-in-None : goal.returns-in-None
returns-in-None c = takes_none _ _ _ _ c.requires.2
