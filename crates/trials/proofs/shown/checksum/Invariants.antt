use Prim.Native.Nat.{◌<◌}
use Rattle.trials.proofs.shown.checksum.Given as goal

abbrev pub invariant-loop-byte : goal.invariant-loop-byte
invariant-loop-byte l = (l.a < 65521) × (l.b < 65521)
