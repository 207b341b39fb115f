use native.Mathlib.Omega.{arith}
use Rattle.printing.proofs.Puts.{and-then}
use Rattle.printing.proofs.put_thousandths.Goals as goal

pub returns : goal.returns
returns c =
    let whole = c.put_decimal-whole.ensures in
    let p =
    and-then whole.put (and-then c.put_byte-point.ensures (and-then c.put_digit-tenth.ensures
    (and-then c.put_digit-hundredth.ensures c.put_digit.ensures))) in
    record {
      put = p;
      upper_bound =
          omega (
            arith,
            whole.upper_bound,
            c.put_byte-point.ensures.next,
            c.put_digit-tenth.ensures.next,
            c.put_digit-hundredth.ensures.next,
            c.put_digit.ensures.next,
          );
    }
