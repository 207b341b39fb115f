use Prim.Native.Nat.{◌≤◌}
use mathlib.Core.Path.{◌≡◌}
use lib.ListN.{drop}
use Rattle.typed_words.specs.Amounts.{number_from}
use Rattle.typed_words.proofs.number.Given as goal

-- the digits that are left make the number
abbrev pub invariant-loop-b : goal.invariant-loop-b
invariant-loop-b l = record { most : l.v ≤ 1000000000000000; so_far : number_from l.start l.s ≡ number_from l.v (drop l.b-index l.s) }
