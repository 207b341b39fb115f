-- What is left to put makes the whole. Assumes nothing.
use Prim.Native.Nat.{◌-◌}
use Rattle.records.proofs.Steps.{Going}
use Rattle.records.proofs.put_rows.Given as goal

abbrev pub invariant-loop : goal.invariant-loop
invariant-loop l = Going l.most l.initial.a l.at l.book l.initial.out l.out l.a l.taken l.end (l.most - l.counter)
