-- The invariant: saying what is left makes all that is said. Assumes nothing.
use Prim.Native.Nat.{◌-◌}
use Rattle.printing.specs.Says.{Says}
use Rattle.printing.specs.declared.text.Text.{Text}
use Rattle.writer.specs.Unusual.{remarks_from}
use Rattle.writer.proofs.unusual.say_unusual.Given as goal

abbrev pub invariant-loop-i : goal.invariant-loop-i
invariant-loop-i l = (end : Text) → Says l.out end (remarks_from (l.n - l.i) l.i l.number l.who l.e l.count) → Says l.initial.out end (remarks_from l.n 0 l.number l.who l.e l.before)
