use Prim.Native.Nat.{◌-◌, ◌≤◌}
use lib.ListN.{length, drop}
use Rattle.sheet.specs.Sheets.{each, row_item}
use Rattle.sheet.specs.Code.{made_of}
use Rattle.sheet.proofs.Writing.{Run}
use Rattle.sheet.proofs.write_rows.Given as goal

abbrev pub invariant-loop-i : goal.invariant-loop-i
invariant-loop-i l = (l.i ≤ length l.text) × Run row_item l.initial.lines 0 (made_of (each row_item 2 (drop l.from l.text))) l.lines l.at
    (drop l.i l.text)

abbrev pub decreases-loop-i : goal.decreases-loop-i
decreases-loop-i l = length l.text - l.i
