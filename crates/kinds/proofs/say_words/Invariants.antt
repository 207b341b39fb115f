-- The invariant: saying the words that are left makes all after the first. Assumes nothing.
use Prim.Native.Nat.{◌+◌, ◌-◌}
use Rattle.printing.specs.Says.{Says}
use Rattle.printing.specs.declared.text.Text.{Text}
use Rattle.kinds.specs.Kinds.{choices_from}
use Rattle.kinds.proofs.say_words.Given as goal

abbrev pub invariant-loop-v : goal.invariant-loop-v
invariant-loop-v l = (end : Text) → Says l.out end (choices_from (l.n - l.v) (l.v + 1) l.row l.i) → Says l.initial.out end (choices_from (l.n - 1) 2 l.row l.i)
