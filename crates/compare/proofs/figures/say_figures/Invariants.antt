-- The invariant: saying the figures that are left makes all. Assumes nothing.
use Prim.Native.Nat.{◌-◌}
use Rattle.printing.specs.Says.{Says}
use Rattle.printing.specs.declared.text.Text.{Text}
use Rattle.compare.specs.Figures.{figures_from}
use Rattle.compare.proofs.figures.say_figures.Given as goal

abbrev pub invariant-loop-f : goal.invariant-loop-f
invariant-loop-f l = (end : Text) → Says l.out end (figures_from (l.n - l.f) l.alone l.f l.s l.t) → Says l.initial.out end (figures_from l.n l.alone 0 l.s l.t)
