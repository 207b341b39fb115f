-- What is left to type makes the whole. Assumes nothing.
use Prim.Native.Nat.{◌-◌}
use Rattle.retype.proofs.Steps.{Going}
use Rattle.retype.proofs.type_records.Given as goal

abbrev pub invariant-loop : goal.invariant-loop
invariant-loop l = Going l.most l.initial.a l.book l.initial.out l.out l.a l.at l.end (l.most - l.counter)
