use Prim.Native.Nat.{◌-◌}
use native.Mathlib.Omega.{arith}
use mathlib.Core.Path.{sym, ◌∙◌}
use Rattle.printing.proofs.Points.{none-cut, one-cut}
use Rattle.printing.proofs.+without_last.Goals as goal

pub returns-then-d-eq0 : goal.returns-then-d-eq0
returns-then-d-eq0 t c = sym (none-cut c.args.v c.args.d c.if-d-eq0.true)

pub returns : goal.returns
returns t c = c.without_last.ensures ∙ sym (one-cut c.args.v c.args.d (c.args.d - 1) (omega arith))
