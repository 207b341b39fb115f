use native.Mathlib.Omega.{arith}
use Rattle.printing.proofs.Puts.{and-then}
use Rattle.printing.proofs.put_spaced.Goals as goal

pub returns : goal.returns
returns c = record {
  put = and-then c.put_byte-after.ensures c.put_decimal.ensures.put;
  upper_bound = omega (arith, c.put_byte-after.ensures.next, c.put_decimal.ensures.upper_bound);
}
