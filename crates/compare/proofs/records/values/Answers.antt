-- Assumes nothing.
use Rattle.compare.proofs.Wordings.{kind-there, values-there}
use Rattle.compare.proofs.records.values.Goals as goal

pub row_at-requires : goal.row_at-requires
row_at-requires c = kind-there c.args.r.now c.requires

pub read-requires : goal.read-requires
read-requires c = values-there c.args.r.now _ c.requires c.row_at.ensures

pub returns : goal.returns
returns c = rw c.row_at.ensures at c.read.ensures
