-- A blank and a value, one after the other. Assumes nothing.
use Rattle.retype.proofs.Steps.{Putting}
use Rattle.retype.proofs.put_values.Given as goal

abbrev pub invariant-loop-i : goal.invariant-loop-i
invariant-loop-i l = Putting l.row l.values l.initial.out l.out l.at l.end l.i
