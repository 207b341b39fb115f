use mathlib.Core.Bool.{not}
use mathlib.Core.Path.{ap}
use Rattle.compare.proofs.MovedRecords.{often-none, often-some}
use Rattle.compare.proofs.moved.as_often.Goals as goal

pub returns-then-not-detail : goal.returns-then-not-detail
returns-then-not-detail c = often-none _ _ _ c.detail.ensures (ap not c.if-not-detail.true)

pub returns : goal.returns
returns c = let f = c in
    often-some _ _ _ _ _ _ f.detail.ensures (ap not f.if-not-detail.false) c.times.ensures c.times-2.ensures
