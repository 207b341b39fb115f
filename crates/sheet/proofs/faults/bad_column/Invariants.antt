-- The invariant: the first that differs is among those that are left. Assumes nothing.
use Rattle.sheet.proofs.Places.{Going}
use Rattle.sheet.proofs.faults.bad_column.Given as goal

abbrev pub invariant-loop-j : goal.invariant-loop-j
invariant-loop-j l = Going l.text l.kind l.at l.j
