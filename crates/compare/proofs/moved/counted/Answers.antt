use mathlib.Core.Bool.{not}
use mathlib.Core.Path.{ap}
use Rattle.compare.proofs.MovedRecords.{details-none, details-some}
use Rattle.compare.proofs.moved.counted.Goals as goal

pub returns-then-not-all_as_often : goal.returns-then-not-all_as_often
returns-then-not-all_as_often c = details-none _ _ _ c.all_as_often.ensures (ap not c.if-not-all_as_often.true)

pub returns : goal.returns
returns c = details-some _ _ _ c.all_as_often.ensures _ (ap not c.if-not-all_as_often.false) c.all_as_often-2.ensures
