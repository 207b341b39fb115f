-- The invariant: saying the sums that are left makes all. Assumes nothing.
use Rattle.std.proofs.Common.{◌≡◌, ◌+◌, length, arith, rules}
use Rattle.line_bytes.specs.Lines.{figure_count}
use Rattle.printing.proofs.Texts.{◌⟫◌, says-none}
use Rattle.table.specs.Sums.{no_sum}
use Rattle.table.proofs.Columns.{one-sum-cell, no-sum-cell}
use Rattle.table.proofs.rows.say_sums.Goals as goal

pub loop-k-preserved : goal.loop-k-preserved
loop-k-preserved c =
    let four : length c.args.sums ≡ 3 + figure_count = search rules in
    (omega (arith, c.loop-k-test.true), λ end p. c.loop-k.invariant.1 end (rw (one-sum-cell c.args.sums c.loop-k.k no_sum (omega (arith, four, c.loop-k-test.true))) (c.say_sum.ensures ⟫ p)))

pub returns : goal.returns
returns c =
    let four : length c.args.sums ≡ 3 + figure_count = search rules in
    c.loop-k.invariant.1 c.loop-k.out (rw (no-sum-cell c.args.sums c.loop-k.k (omega (arith, four, c.loop-k-test.false))) says-none)
