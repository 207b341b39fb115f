use Prim.Native.Nat.{◌+◌}
use mathlib.Core.Path.{◌≡◌}
use lib.ListN.{length, take}
use Rattle.printing.specs.Decimal.{Put}
use Rattle.names.specs.Names.{shown}
use Rattle.names.proofs.put_shown.Given as goal

-- so much of the word stands in the buffer
abbrev pub invariant-loop-i : goal.invariant-loop-i
invariant-loop-i l = (length l.out ≡ length l.initial.out) × Put l.initial.out l.out l.at (take l.i (shown l.word)) (l.at + l.i)
