-- One column behind another. Assumes nothing.
use native.Mathlib.Numerals.{add-one}
use lib.ListN.{drop_of_length-le}
use lib.Seq.{drop-cons}
use Rattle.printing.proofs.Puts.{none, and-then}
use Rattle.line_rows.specs.Rows.{columns_text}
use borrow.Author.Rules.{rules}
use Rattle.line_rows.proofs.put_columns.Goals as goal

pub loop-k-preserved : goal.loop-k-preserved
unfolding columns_text
loop-k-preserved c =
    let turn = c.loop-k in
    let first = drop-cons c.args.values.now turn.k 0 c.loop-k-test.true in
    record {
      same = search rules;
      room = search rules;
      small = search rules;
      rest = λ zs q p. turn.invariant.rest zs q (rw first (and-then c.put_next-end.ensures.put (rw add-one at p)));
    }

pub returns : goal.returns
unfolding columns_text
returns c =
    let turn = c.loop-k in
    let done = drop_of_length-le c.args.values.now c.loop-k-test.false in
    record { put = turn.invariant.rest turn.out turn.end (rw done (none turn.out turn.end (search rules))); result_bound = search rules }

pub loop-k-init : goal.loop-k-init
loop-k-init c = record { same = search rules; room = search rules; small = search rules; rest = λ zs q p. p }
