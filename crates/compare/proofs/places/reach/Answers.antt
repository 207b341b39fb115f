-- Assumes nothing.
use native.Mathlib.Omega.{arith}
use Rattle.compare.proofs.Walks.{reaching-none, reaching-out, reaching-on, reaching-far}
use Rattle.compare.proofs.places.reach.Goals as goal

pub loop-i-init : goal.loop-i-init
loop-i-init c = reaching-none _ _ _ c.requires

pub rest_of-requires : goal.rest_of-requires
rest_of-requires c = c.loop-i.invariant.valid.inside

pub step-t-requires : goal.step-t-requires
step-t-requires c = c.loop-i.invariant.valid.range

pub returns-then-t-eq0 : goal.returns-then-t-eq0
returns-then-t-eq0 c = reaching-out _ _ _ _ _ c.loop-i.invariant _ (rw c.rest_of.ensures at c.step-t.ensures) c.if-t-eq0.true

pub after-q-requires : goal.after-q-requires
after-q-requires c = (c.loop-i.invariant.valid, (rw c.rest_of.ensures at c.step-t.ensures), omega (arith, c.if-t-eq0.false))

pub loop-i-preserved : goal.loop-i-preserved
loop-i-preserved c = let a = c.after-q.ensures in
    reaching-on _ _ _ _ _ c.loop-i.invariant _ (rw c.rest_of.ensures at c.step-t.ensures) _ c.loop-i-test.true a.0 a.1

pub returns : goal.returns
returns c = reaching-far _ _ _ _ _ c.loop-i.invariant c.loop-i-test.false
