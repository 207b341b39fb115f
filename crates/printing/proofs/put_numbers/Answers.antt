use native.Mathlib.Omega.{arith}
use Rattle.base.proofs.Slices.{to_end}
use Rattle.printing.proofs.Joined.{joined-none, joined-some}
use Rattle.printing.proofs.Puts.{and-then}
use borrow.Author.Rules.{rules}
use Rattle.printing.proofs.put_numbers.Goals as goal

pub returns-then-values-eq0 : goal.returns-then-values-eq0
returns-then-values-eq0 c = record {
  put = rw (joined-none c.args.values.now c.if-values-eq0.true) c.put_byte.ensures;
  upper_bound = omega (arith, c.put_byte.ensures.next);
}

pub returns : goal.returns
returns c =
    let newline = c.put_byte-2.ensures in
    let rest = rw (to_end c.args.values.now 1) at c.put_rest-end.ensures.put in
    record {
      put =
          rw (joined-some c.args.values.now (search rules)) (and-then (and-then c.put_decimal-first.ensures.put rest) newline);
      upper_bound = omega (arith, newline.next, c.put_rest-end.ensures.upper_bound, c.put_decimal-first.ensures.upper_bound);
    }
