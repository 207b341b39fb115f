-- Assumes nothing.
use native.Mathlib.Omega.{arith}
use borrow.Author.Rules.{rules}
use Rattle.compare.proofs.sections.say_subtotals.Goals as goal

pub subtotal-n-requires : goal.subtotal-n-requires
subtotal-n-requires c = (c.requires.0.end, search rules)

pub subtotal-m-requires : goal.subtotal-m-requires
subtotal-m-requires c = (c.requires.1.end, search rules)

pub first_of-requires : goal.first_of-requires
first_of-requires c = c.subtotal-n.ensures.upper_bound

pub first_of-requires-2 : goal.first_of-requires-2
first_of-requires-2 c = c.subtotal-m.ensures.upper_bound

pub say_sum-requires : goal.say_sum-requires
say_sum-requires c = omega arith

pub returns : goal.returns
returns c = rw (c.first_of.ensures, c.first_of-2.ensures, c.subtotal-n.ensures.lines_after, c.subtotal-m.ensures.lines_after) at c.say_sum.ensures
