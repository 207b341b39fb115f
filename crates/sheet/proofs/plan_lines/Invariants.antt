use Prim.Native.Nat.{ℕ, ◌-◌, ◌≤◌}
use mathlib.Core.Path.{◌≡◌}
use lib.ListN.{length, drop}
use Rattle.sheet.specs.Sheets.{rows_of}
use Rattle.sheet.specs.Code.{total_of, answer_after}
use Rattle.sheet.proofs.Exporting.{Going}
use Rattle.sheet.proofs.plan_lines.Given as goal

abbrev pub invariant-loop-i : goal.invariant-loop-i
invariant-loop-i l =
    (l.i ≤ length l.lines) ×
    ((k : ℕ) → l.initial.total ≡ total_of l.room k → Going (answer_after k (rows_of l.lines) l.room) l.room l.total (drop l.i l.lines))

abbrev pub decreases-loop-i : goal.decreases-loop-i
decreases-loop-i l = length l.lines - l.i
