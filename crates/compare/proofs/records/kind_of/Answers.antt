use Rattle.compare.proofs.SameBytes.{kind-byte}
use Rattle.compare.proofs.records.kind_of.Goals as goal

pub returns : goal.returns
returns c = kind-byte _ _ c.be8.ensures
