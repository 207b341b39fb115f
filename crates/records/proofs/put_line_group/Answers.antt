-- Its number, or nothing. Assumes nothing.
use native.Mathlib.Omega.{arith}
use Rattle.printing.proofs.Puts.{none}
use Rattle.records.proofs.Texts.{group-none, group-some}
use Rattle.records.proofs.put_line_group.Goals as goal

pub returns-then-line-lt-LINE_SIZE : goal.returns-then-line-lt-LINE_SIZE
returns-then-line-lt-LINE_SIZE c = let c3 = c in
    let line = c3.args.line.now in record { put = rw (group-none line c.if-line-lt-LINE_SIZE.true) (none _ _ (omega (arith, c3.requires))); result_bound = omega arith }

pub returns : goal.returns
returns c = let c2 = c in
    let c4 = c2 in
    let c5 = c4 in
    let c8 = c5 in
    let p = c2.put_decimal.ensures in record { put = rw (group-some c8.args.line.now c5.if-line-lt-LINE_SIZE.false c4.detail_numbers-numbers.ensures) p.put; result_bound = omega (arith, p.upper_bound) }
