-- The invariant: counting the fields that are left makes the whole count. Assumes nothing.
use Prim.Native.Nat.{◌-◌}
use mathlib.Core.Path.{◌≡◌}
use Rattle.writer.specs.Unusual.{unusual_from}
use Rattle.writer.proofs.unusual.unusual_after.Given as goal

abbrev pub invariant-loop-i : goal.invariant-loop-i
invariant-loop-i l = unusual_from (l.n - l.i) l.i l.who l.e l.count ≡ unusual_from l.n 0 l.who l.e l.before
