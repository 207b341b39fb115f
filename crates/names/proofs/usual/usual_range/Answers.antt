use Rattle.names.specs.Names.{decimals_at}
use Rattle.names.specs.Usual.{usual_table}
use Rattle.names.proofs.UsualRanges.{by_word, for-all, no_range}
use Rattle.names.proofs.usual.usual_range.Goals as goal

pub returns-then-range-eq0 : goal.returns-then-range-eq0
unfolding usual_table
returns-then-range-eq0 c =
    rw c.cell-ranges.ensures at
    (no_range c.cell-ranges.result.now (decimals_at c.args.row c.args.i) c.args.who c.range_for-range.ensures c.if-range-eq0.true)

pub returns-then-goes_by : goal.returns-then-goes_by
unfolding usual_table
returns-then-goes_by c =
    rw c.cell-ranges.ensures at
    (by_word _ _ _ c.goes_by.ensures c.range_for-range.ensures c.if-range-eq0.false c.if-goes_by.true c.limit.ensures c.limit-then-goes_by.ensures)

pub returns : goal.returns
unfolding usual_table
returns c =
    rw c.cell-ranges.ensures at
    (for-all _ _ _ c.goes_by.ensures c.range_for-range.ensures c.if-range-eq0.false c.if-goes_by.false c.limit-2.ensures c.limit-3.ensures)
