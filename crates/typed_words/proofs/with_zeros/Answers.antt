use native.Mathlib.Omega.{arith}
use mathlib.Core.Path.{◌∙◌}
use Rattle.typed_words.proofs.Amounts.{one-zero, no_zero}
use Rattle.typed_words.proofs.with_zeros.Goals as goal

pub loop-i-preserved : goal.loop-i-preserved
loop-i-preserved c =
    let turn = c.loop-i in
    record {
      most = omega (arith, c.with_digit-end.ensures);
      so_far = rw c.with_digit-end.ensures (turn.invariant.so_far ∙ one-zero turn.end c.args.k turn.i c.loop-i-test.true);
    }

pub returns : goal.returns
returns c = c.loop-i.invariant.so_far ∙ no_zero c.loop-i.end c.args.k c.loop-i.i c.loop-i-test.false
