-- The invariant: saying the rows that are left makes all after the first line. Assumes nothing.
use Prim.Native.Nat.{suc, ◌-◌}
use Rattle.printing.specs.Says.{Says}
use Rattle.printing.specs.declared.text.Text.{Text}
use Rattle.codec.specs.Table.{last_row}
use Rattle.kinds_screen.specs.Screen.{rows_from}
use Rattle.kinds_screen.proofs.tell_screen.Given as goal

abbrev pub invariant-loop-row : goal.invariant-loop-row
invariant-loop-row l = (end : Text) → Says l.text end (rows_from (suc last_row - l.row) l.row) → Says l.initial.text end (rows_from (suc last_row - 1) 1)
