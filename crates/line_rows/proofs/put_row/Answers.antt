-- The first column, the others, and the ending. Assumes nothing.
use native.Mathlib.Omega.{arith}
use Rattle.printing.proofs.Puts.{and-then}
use Rattle.line_rows.proofs.Texts.{row-text}
use borrow.Author.Rules.{rules}
use Rattle.line_rows.proofs.put_row.Goals as goal

pub returns : goal.returns
returns c =
    let values = c.args.values.now in
    let ending = c.put_ending.ensures in
    record {
      put = rw (row-text _ _ values (search rules))
          (and-then c.put_column-first.ensures.put (and-then c.put_columns-end.ensures.put ending.put));
      upper_bound = omega (arith, ending.upper_bound, c.put_columns-end.ensures.result_bound, c.put_column-first.ensures.upper_bound);
    }
