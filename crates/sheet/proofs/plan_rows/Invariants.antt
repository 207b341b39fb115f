use Prim.Native.Nat.{◌-◌, ◌≤◌}
use lib.ListN.{length, drop}
use Rattle.sheet.specs.Sheets.{each, row_item, answer}
use Rattle.sheet.proofs.Plans.{Planned}
use Rattle.sheet.proofs.plan_rows.Given as goal

abbrev pub invariant-loop-i : goal.invariant-loop-i
invariant-loop-i l =
    (l.i ≤ length l.text) × (l.row ≤ l.i) × Planned row_item (λ n. n) (answer (each row_item 2 (drop l.from l.text)) l.room) l.room l.total
    (drop l.i l.text) l.row

abbrev pub decreases-loop-i : goal.decreases-loop-i
decreases-loop-i l = length l.text - l.i
