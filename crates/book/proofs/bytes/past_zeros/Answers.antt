use mathlib.Core.Path.{refl, sym, ◌∙◌}
use native.Mathlib.Omega.{arith}
use borrow.Author.Rules.{rules}
use Rattle.book.proofs.MovedBytes.{zeros-four}
use Rattle.book.proofs.bytes.past_zeros.Goals as goal

pub loop-i-init : goal.loop-i-init
loop-i-init c = (search rules, refl)

pub be32-requires : goal.be32-requires
be32-requires c = let l = c.loop-i in omega (arith, l.invariant.0, c.loop-i-test.true)

pub returns-then-be32-ne0 : goal.returns-then-be32-ne0
returns-then-be32-ne0 c = c.loop-i.invariant.1

pub loop-i-preserved : goal.loop-i-preserved
loop-i-preserved c = let l = c.loop-i in (
  l.invariant.0,
  sym (zeros-four _ l.i (omega (arith, l.invariant.0, c.loop-i-test.true))
      (sym c.be32.ensures ∙ c.if-be32-ne0.false)) ∙ l.invariant.1,
)

pub returns : goal.returns
returns c = c.loop-i.invariant.1
