-- The numbers of the slip, one behind the other. Assumes nothing.
use Rattle.std.proofs.Common.{arith}
use Rattle.printing.proofs.Puts.{and-then}
use Rattle.whatif.proofs.put_slip.Goals as goal

pub returns : goal.returns
returns c =
    let code = c.put_decimal-code.ensures in
    let ration = c.put_ration-days.ensures in
    let kg = c.put_spaced_shown-kg.ensures in
    let both = c.put_compared-both.ensures in
    let newline = c.put_byte.ensures in
    record {
      put = and-then code.put (and-then ration.put (and-then kg.put (and-then both.put newline)));
      upper_bound = omega (arith, code.upper_bound, ration.upper_bound, kg.upper_bound, both.upper_bound, newline.next);
    }
