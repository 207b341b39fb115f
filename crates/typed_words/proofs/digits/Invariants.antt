use Prim.Native.Nat.{◌<◌}
use mathlib.Core.Path.{◌≡◌}
use lib.ListN.{drop}
use Rattle.typed_words.specs.Numbers.{digits_from}
use Rattle.typed_words.proofs.digits.Given as goal

-- the digits that are left make the whole number
abbrev pub invariant-loop-b : goal.invariant-loop-b
invariant-loop-b l = record { few : l.v < 1000000000000000; so_far : digits_from l.start l.s ≡ digits_from l.v (drop l.b-index l.s) }
