-- The invariant: saying the fields that are left makes all after the first. Assumes nothing.
use Prim.Native.Nat.{◌-◌}
use Rattle.printing.specs.Says.{Says}
use Rattle.printing.specs.declared.text.Text.{Text}
use Rattle.kinds_screen.specs.Screen.{fields_from}
use Rattle.kinds_screen.proofs.say_all.Given as goal

abbrev pub invariant-loop-i : goal.invariant-loop-i
invariant-loop-i l = (end : Text) → Says l.out end (fields_from (l.n - l.i) l.i l.row) → Says l.initial.out end (fields_from (l.n - 1) 1 l.row)
