use native.Mathlib.Omega.{arith}
use Rattle.printing.proofs.Digits.{decimal-small, decimal-more, length-small, length_more}
use Rattle.printing.proofs.Puts.{and-then, put-length}
use Rattle.printing.proofs.+put_digits.Goals as goal

pub put_byte-requires : goal.put_byte-requires
put_byte-requires t c = omega (arith, length-small c.args.v c.if-v-lt10.true)

pub returns-then-v-lt10 : goal.returns-then-v-lt10
returns-then-v-lt10 t c = rw (decimal-small c.args.v c.if-v-lt10.true) c.put_byte.ensures

pub put_digits-end-requires : goal.put_digits-end-requires
put_digits-end-requires t c = (omega arith, omega (arith, length_more c.args.v c.if-v-lt10.false))

pub put_byte-requires-2 : goal.put_byte-requires-2
put_byte-requires-2 t c = omega (arith, length_more c.args.v c.if-v-lt10.false, put-length c.put_digits-end.ensures)

pub returns : goal.returns
returns t c = rw (decimal-more c.args.v c.if-v-lt10.false) (and-then c.put_digits-end.ensures c.put_byte-2.ensures)
