use Rattle.std.proofs.Common.{arith}
use Rattle.printing.proofs.Puts.{and-then}
use Rattle.whatif.proofs.put_ration.Goals as goal

pub returns : goal.returns
returns c =
    let ge = c.put_spaced_shown-ge.ensures in
    let ym = c.put_spaced_shown-ym.ensures in
    let head = c.put_spaced_shown-head.ensures in
    let days = c.put_decimal.ensures in
    record {
      put = and-then ge.put (and-then ym.put (and-then head.put (and-then c.put_byte-after.ensures days.put)));
      upper_bound = omega (arith, ge.upper_bound, ym.upper_bound, head.upper_bound, c.put_byte-after.ensures.next, days.upper_bound);
    }
