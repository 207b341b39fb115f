-- One column after the other. Assumes nothing.
use Rattle.std.proofs.Common.{sym, ◌∙◌, arith, length-set}
use Rattle.table.specs.Sums.{no_sum}
use Rattle.table.proofs.Adding.{one-sum, all-sums}
use Rattle.table.proofs.sums.plus_each.Goals as goal

pub loop-k-preserved : goal.loop-k-preserved
loop-k-preserved c =
    let l = c.loop-k in (
      length-set l.sums l.k c.plus-next.result ∙ l.invariant.0,
      omega (arith, c.loop-k-test.true),
      one-sum c.args.numbers l.sums l.k no_sum c.plus-next.result (omega (arith, l.invariant.0, c.loop-k-test.true))
          (cc)
          ∙ l.invariant.2,
    )

pub returns : goal.returns
returns c =
    let l = c.loop-k in
    sym (all-sums c.args.numbers l.sums l.k (omega (arith, l.invariant.0, c.loop-k-test.false))) ∙ l.invariant.2
