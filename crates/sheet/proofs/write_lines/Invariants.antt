use Prim.Native.Nat.{◌-◌, ◌≤◌}
use lib.ListN.{length, drop}
use Rattle.sheet.specs.Sheets.{rows_of, line_item}
use Rattle.sheet.specs.Code.{made_of}
use Rattle.sheet.proofs.Writing.{Run}
use Rattle.sheet.proofs.write_lines.Given as goal

abbrev pub invariant-loop-i : goal.invariant-loop-i
invariant-loop-i l = (l.i ≤ length l.lines) × Run line_item l.initial.text l.from (made_of (rows_of l.lines)) l.text l.at (drop l.i l.lines)

abbrev pub decreases-loop-i : goal.decreases-loop-i
decreases-loop-i l = length l.lines - l.i
