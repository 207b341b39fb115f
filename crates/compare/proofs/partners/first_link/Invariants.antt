use Prim.Native.Nat.{◌<◌}
use Rattle.compare.proofs.partners.first_link.Given as goal

abbrev pub invariant-loop-byte : goal.invariant-loop-byte
invariant-loop-byte l = l.k < 4096
