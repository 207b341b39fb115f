-- The invariant: saying the fields that are left makes all. Assumes nothing.
use Prim.Native.Nat.{◌-◌}
use Rattle.printing.specs.Says.{Says}
use Rattle.printing.specs.declared.text.Text.{Text}
use mathlib.Core.Bool.{false}
use Rattle.compare.specs.Values.{fields_from}
use Rattle.compare.proofs.in_words.say_fields.Given as goal

abbrev pub invariant-loop-i : goal.invariant-loop-i
invariant-loop-i l = (end : Text) → Says l.out end (fields_from (l.n - l.i) l.any l.alone l.row l.i l.vs l.ws) → Says l.initial.out end (fields_from l.n false l.alone l.row 0 l.vs l.ws)
