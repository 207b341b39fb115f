use Prim.Native.Nat.{◌<◌}
use Rattle.compare.proofs.partners.link_to.Given as goal

abbrev pub invariant-loop : goal.invariant-loop
invariant-loop l = l.link < 8192
