-- A byte more: 255 after what was there. Assumes nothing.
use Prim.Native.Nat.{◌+◌, ◌≤◌}
use mathlib.Core.Path.{◌≡◌}
use Rattle.codec.specs.Codec.{bytes_hold}
use Rattle.sheet.proofs.rows.highest_in.Given as goal

abbrev pub invariant-loop-i : goal.invariant-loop-i
invariant-loop-i l = (l.i ≤ l.width) × (l.highest + 1 ≡ bytes_hold l.i)
