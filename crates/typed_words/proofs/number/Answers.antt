use native.Mathlib.Omega.{arith}
use mathlib.Core.Path.{sym, ◌∙◌}
use Rattle.typed_words.proofs.Amounts.{goes_on, breaks-off, at-end}
use Rattle.typed_words.proofs.number.Goals as goal

pub returns-then-not-is_ascii_digit-clause-value : goal.returns-then-not-is_ascii_digit-clause-value
returns-then-not-is_ascii_digit-clause-value c =
    let turn = c.loop-b in
    sym (turn.invariant.so_far
    ∙ breaks-off turn.v c.args.s.now turn.b-index c.loop-b-test.true c.is_ascii_digit.result c.is_ascii_digit.ensures.value
    c.if-not-is_ascii_digit.true)

pub loop-b-preserved : goal.loop-b-preserved
loop-b-preserved c =
    let turn = c.loop-b in
    let on = goes_on turn.v c.args.s.now turn.b-index c.loop-b-test.true c.is_ascii_digit.result c.is_ascii_digit.ensures.value
    c.if-not-is_ascii_digit.false in
    record { most = omega (arith, c.with_digit-v.ensures); so_far = rw c.with_digit-v.ensures (turn.invariant.so_far ∙ on) }

pub returns-clause-value : goal.returns-clause-value
returns-clause-value c = let turn = c.loop-b in sym (turn.invariant.so_far ∙ at-end turn.v c.args.s.now turn.b-index c.loop-b-test.false)
