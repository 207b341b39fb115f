use Prim.Native.Nat.{◌-◌}
use lib.ListN.{length}
use Rattle.line_rows.proofs.Texts.{Putting}
use Rattle.line_rows.proofs.put_lines.Given as goal

abbrev pub invariant-loop-i : goal.invariant-loop-i
invariant-loop-i l = Putting l.form l.initial.out l.lines l.out l.i l.at

abbrev pub decreases-loop-i : goal.decreases-loop-i
decreases-loop-i l = length l.lines - l.i
