use mathlib.Core.Path.{ap, sym, ◌∙◌}
use native.Mathlib.Omega.{arith}
use borrow.Author.Rules.{rules}
use borrow.Author.Tests.{eq-eqb, ne_eqb}
use lib.ListN.{drop_of_length-le}
use Rattle.book.specs.State.{zeros}
use Rattle.book.proofs.MovedBytes.{zeros-one}
use Rattle.book.proofs.bytes.zeroed.Goals as goal

pub loop-i-init : goal.loop-i-init
loop-i-init c = (search rules, sym c.past_zeros-i.ensures)

pub returns-then-a-i-ne0 : goal.returns-then-a-i-ne0
returns-then-a-i-ne0 c = let l = c.loop-i in sym (l.invariant.1 ∙ zeros-one _ l.i _ (omega arith) (ne_eqb _ _ c.if-a-i-ne0.true))

pub loop-i-preserved : goal.loop-i-preserved
loop-i-preserved c = let l = c.loop-i in (l.invariant.0, l.invariant.1 ∙ zeros-one _ l.i _ (omega arith) (eq-eqb _ _ c.if-a-i-ne0.false))

pub returns : goal.returns
returns c = let l = c.loop-i in
    sym (l.invariant.1 ∙ ap zeros (drop_of_length-le c.args.a {i = l.i} (omega arith)))
