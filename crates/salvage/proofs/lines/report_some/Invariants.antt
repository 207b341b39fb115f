-- What is left to tell makes the whole. Assumes nothing.
use Prim.Native.Nat.{◌-◌}
use Rattle.salvage.proofs.LineSteps.{Going}
use Rattle.salvage.proofs.lines.report_some.Given as goal

abbrev pub invariant-loop-told : goal.invariant-loop-told
invariant-loop-told l = Going l.most l.initial.s l.xs l.initial.out l.out l.s l.at l.end (l.most - l.told)
