-- What stands between, then the number. Assumes nothing.
use Rattle.printing.proofs.Puts.{and-then}
use borrow.Author.Rules.{rules}
use Rattle.line_rows.proofs.put_next.Goals as goal

pub returns : goal.returns
returns c = record {
  put = and-then (rw c.byte_between.ensures at c.put_byte-after.ensures) c.put_column.ensures.put;
  upper_bound = search rules;
}
