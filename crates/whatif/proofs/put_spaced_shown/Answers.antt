use Rattle.std.proofs.Common.{arith}
use Rattle.printing.proofs.Puts.{and-then}
use Rattle.whatif.proofs.put_spaced_shown.Goals as goal

pub returns : goal.returns
returns c = record {
  put = and-then c.put_byte-after.ensures c.put_shown.ensures.put;
  upper_bound = omega (arith, c.put_byte-after.ensures.next, c.put_shown.ensures.upper_bound);
}
