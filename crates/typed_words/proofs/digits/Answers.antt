use native.Mathlib.Omega.{arith}
use mathlib.Core.Path.{sym, ◌∙◌}
use lib.ListN.{get_or}
use Rattle.typed_words.proofs.Values.{taken, goes_on, breaks-off, at-end}
use Rattle.typed_words.proofs.digits.Goals as goal

pub returns-then-not-takes_digit-clause-value : goal.returns-then-not-takes_digit-clause-value
returns-then-not-takes_digit-clause-value c =
    let turn = c.loop-b in
    sym (turn.invariant.so_far
    ∙ breaks-off turn.v c.args.s.now turn.b-index c.loop-b-test.true c.takes_digit.result c.takes_digit.ensures c.if-not-takes_digit.true)

pub loop-b-preserved : goal.loop-b-preserved
loop-b-preserved c =
    let turn = c.loop-b in
    let told = taken turn.v (get_or c.args.s.now turn.b-index 0) c.takes_digit.result c.takes_digit.ensures c.if-not-takes_digit.false in
    let on = goes_on turn.v c.args.s.now turn.b-index c.loop-b-test.true c.takes_digit.result c.takes_digit.ensures c.if-not-takes_digit.false in
    record { few = omega (arith, told); so_far = turn.invariant.so_far ∙ on }

pub returns-clause-value : goal.returns-clause-value
returns-clause-value c = let turn = c.loop-b in sym (turn.invariant.so_far ∙ at-end turn.v c.args.s.now turn.b-index c.loop-b-test.false)
