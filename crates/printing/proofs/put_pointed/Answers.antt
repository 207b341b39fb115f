use native.Mathlib.Omega.{arith}
use Rattle.printing.proofs.Points.{whole-number, with-point, last-length}
use Rattle.printing.proofs.Puts.{and-then}
use Rattle.printing.proofs.put_pointed.Goals as goal

pub returns-then-d-eq0 : goal.returns-then-d-eq0
returns-then-d-eq0 c = record {
  put = rw (whole-number c.args.v c.args.d c.if-d-eq0.true) (rw c.without_last.ensures at c.put_decimal-whole.ensures.put);
  upper_bound = omega (arith, c.put_decimal-whole.ensures.upper_bound);
}

pub returns : goal.returns
returns c = record {
  put =
      rw (with-point c.args.v c.args.d c.if-d-eq0.false)
      (and-then (rw c.without_last.ensures at c.put_decimal-whole.ensures.put) (and-then c.put_byte-point.ensures c.put_last.ensures));
  upper_bound =
      omega (
        arith,
        c.put_decimal-whole.ensures.upper_bound,
        c.put_byte-point.ensures.next,
        c.put_last.ensures.next,
        last-length c.args.v c.args.d,
      );
}
