use native.Mathlib.Omega.{arith}
use Prim.Native.Nat.{◌-◌, ◌/◌}
use Rattle.printing.proofs.Points.{no-digits, one-digit, last-length}
use Rattle.printing.proofs.Puts.{none, and-then, put-length}
use Rattle.printing.proofs.+put_last.Goals as goal

pub returns-then-d-eq0 : goal.returns-then-d-eq0
returns-then-d-eq0 t c = rw (no-digits c.args.v c.args.d c.if-d-eq0.true) (none c.args.out.now c.args.at (omega arith))

pub put_byte-requires : goal.put_byte-requires
put_byte-requires t c =
    omega (arith, c.put_last-end.ensures.next, put-length c.put_last-end.ensures, last-length (c.args.v / 10) (c.args.d - 1))

pub returns : goal.returns
returns t c =
    rw (one-digit c.args.v c.args.d (c.args.d - 1) (omega arith)) (and-then c.put_last-end.ensures c.put_byte.ensures)
