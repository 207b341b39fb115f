-- The invariant: as many marks as are left, after the bytes gone through. Assumes nothing.
use Prim.Native.Nat.{◌≤◌}
use mathlib.Core.Path.{◌≡◌}
use lib.ListN.{length, drop}
use Rattle.sheet.specs.Faults.{after_marks}
use Rattle.sheet.proofs.faults.after_marks.Given as goal

abbrev pub invariant-loop-i : goal.invariant-loop-i
invariant-loop-i l = (l.i ≤ length l.text) × (after_marks l.b l.left (drop l.i l.text) ≡ after_marks l.b l.n l.text)
