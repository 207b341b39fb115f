use Prim.Native.Nat.{◌-◌, ◌≤◌}
use mathlib.Core.Path.{◌≡◌}
use lib.ListN.{replicate}
use Rattle.typed_words.specs.Amounts.{number_from}
use Rattle.typed_words.proofs.with_zeros.Given as goal

-- the zeros that are left make the number
abbrev pub invariant-loop-i : goal.invariant-loop-i
invariant-loop-i l = record {
  most : l.end ≤ 1000000000000000;
  so_far : number_from l.v (replicate l.k 48) ≡ number_from l.end (replicate (l.k - l.i) 48);
}
