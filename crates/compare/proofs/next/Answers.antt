-- Assumes nothing.
use mathlib.Core.Bool.{not}
use mathlib.Core.Path.{ap}
use Rattle.compare.proofs.NextGroups.{next-sides, next-ended, next-stepped}
use Rattle.compare.proofs.next.Goals as goal

pub returns-then-not-side_in : goal.returns-then-not-side_in
returns-then-not-side_in c = next-ended _ _ c.args.c _ _ c.side_in.ensures c.side_in-2.ensures _ _ _ _ (ap not c.if-not-side_in.true)
    c.end_step.ensures

pub stage_step-requires : goal.stage_step-requires
stage_step-requires c = next-sides _ _ c.args.c _ _ c.side_in.ensures c.side_in-2.ensures (ap not c.if-not-side_in.false)

pub returns : goal.returns
returns c = next-stepped _ _ c.args.c _ _ c.side_in.ensures c.side_in-2.ensures _ _ _ _ (ap not c.if-not-side_in.false) c.stage_step.ensures
