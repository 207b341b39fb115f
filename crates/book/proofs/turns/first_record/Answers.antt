use native.Mathlib.Omega.{arith}
use Rattle.book.proofs.turns.first_record.Goals as goal

pub be16-length-requires : goal.be16-length-requires
be16-length-requires c = c.requires.0

pub returns-then-length-gt-LENGTH_MOST : goal.returns-then-length-gt-LENGTH_MOST
returns-then-length-gt-LENGTH_MOST c = omega (arith, c.be16-length.ensures, c.requires.1, c.if-length-gt-LENGTH_MOST.true)

pub overflow_add-length : goal.overflow_add-length
overflow_add-length c = omega (arith, c.if-length-gt-LENGTH_MOST.false)

pub returns : goal.returns
returns c = omega (arith, c.least.ensures, c.be16-length.ensures)
