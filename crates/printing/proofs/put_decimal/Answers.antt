use native.Mathlib.Omega.{arith}
use Rattle.printing.proofs.Digits.{length-u64}
use borrow.Author.Rules.{rules}
use Rattle.printing.proofs.put_decimal.Goals as goal

pub put_digits-requires : goal.put_digits-requires
put_digits-requires c = omega (arith, length-u64 c.args.v (search rules))

pub returns : goal.returns
returns c = record {
  put = c.put_digits.ensures;
  upper_bound = omega (arith, c.put_digits.ensures.next, length-u64 c.args.v (search rules));
}
