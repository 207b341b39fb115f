-- Assumes nothing.
use mathlib.Core.Bool.{not}
use mathlib.Core.Path.{ap}
use native.Mathlib.Omega.{arith}
use Rattle.compare.proofs.NextGroups.{each_none, each-ends, each-stops, each_on, each_over}
use Rattle.compare.proofs.Walks.{passed-at}
use Rattle.compare.proofs.Pairs.{left-some, right-some}
use Rattle.compare.proofs.groups.same_each.Goals as goal

pub loop-p-init : goal.loop-p-init
loop-p-init c = each_none _ _ _ _ c.start-p.ensures c.start-q.ensures

pub rest_of-xs-requires : goal.rest_of-xs-requires
rest_of-xs-requires c = c.loop-p.invariant.old.inside

pub rest_of-ys-requires : goal.rest_of-ys-requires
rest_of-ys-requires c = c.loop-p.invariant.new.inside

pub step-t-requires : goal.step-t-requires
step-t-requires c = c.loop-p.invariant.old.range

pub step-u-requires : goal.step-u-requires
step-u-requires c = c.loop-p.invariant.new.range

pub returns-then-t-u : goal.returns-then-t-u
returns-then-t-u c = each-ends _ _ _ _ c.loop-p.invariant _ _ (rw c.rest_of-xs.ensures at c.step-t.ensures)
    (rw c.rest_of-ys.ensures at c.step-u.ensures) c.if-t-u.true

pub first_of-requires : goal.first_of-requires
first_of-requires c = c.step-t.ensures.inside

pub first_of-requires-in-loop-p : goal.first_of-requires-in-loop-p
first_of-requires-in-loop-p c = c.step-u.ensures.inside

pub returns-then-not-same : goal.returns-then-not-same
returns-then-not-same c = each-stops _ _ _ _ c.loop-p.invariant _ _ (rw c.rest_of-xs.ensures at c.step-t.ensures)
    (rw c.rest_of-ys.ensures at c.step-u.ensures)
    (left-some _ _ _ _ _ _ (rw c.rest_of-xs.ensures at c.step-t.ensures) (rw c.rest_of-ys.ensures at c.step-u.ensures) c.if-t-u.false)
    (right-some _ _ _ _ _ _ (rw c.rest_of-xs.ensures at c.step-t.ensures) (rw c.rest_of-ys.ensures at c.step-u.ensures) c.if-t-u.false) _
    (rw (c.first_of.ensures, c.first_of-in-loop-p.ensures, c.rest_of-xs.ensures, c.rest_of-ys.ensures) at c.same.ensures) (ap not c.if-not-same.true)

pub after-p-requires : goal.after-p-requires
after-p-requires c = (
  c.loop-p.invariant.old,
  (rw c.rest_of-xs.ensures at c.step-t.ensures),
  left-some _ _ _ _ _ _ (rw c.rest_of-xs.ensures at c.step-t.ensures) (rw c.rest_of-ys.ensures at c.step-u.ensures) c.if-t-u.false,
)

pub after-q-requires : goal.after-q-requires
after-q-requires c = (
  c.loop-p.invariant.new,
  (rw c.rest_of-ys.ensures at c.step-u.ensures),
  right-some _ _ _ _ _ _ (rw c.rest_of-xs.ensures at c.step-t.ensures) (rw c.rest_of-ys.ensures at c.step-u.ensures) c.if-t-u.false,
)

pub loop-p-smaller : goal.loop-p-smaller
loop-p-smaller c = let k = left-some _ _ _ _ _ _ (rw c.rest_of-xs.ensures at c.step-t.ensures) (rw c.rest_of-ys.ensures at c.step-u.ensures)
    c.if-t-u.false in
    let m = passed-at _ _ c.loop-p.invariant.old _ (rw c.rest_of-xs.ensures at c.step-t.ensures) k _ c.after-p.ensures.0 in
    omega (arith, m, k, c.loop-p-test.true)

pub loop-p-preserved : goal.loop-p-preserved
loop-p-preserved c = let a = c.after-p.ensures in
    let b = c.after-q.ensures in
    each_on _ _ _ _ c.loop-p.invariant _ _ (rw c.rest_of-xs.ensures at c.step-t.ensures) (rw c.rest_of-ys.ensures at c.step-u.ensures)
    (left-some _ _ _ _ _ _ (rw c.rest_of-xs.ensures at c.step-t.ensures) (rw c.rest_of-ys.ensures at c.step-u.ensures) c.if-t-u.false)
    (right-some _ _ _ _ _ _ (rw c.rest_of-xs.ensures at c.step-t.ensures) (rw c.rest_of-ys.ensures at c.step-u.ensures) c.if-t-u.false) _ _ _
    (rw (c.first_of.ensures, c.first_of-in-loop-p.ensures, c.rest_of-xs.ensures, c.rest_of-ys.ensures) at c.same.ensures)
    (ap not c.if-not-same.false) a.0 a.1 b.0 b.1

pub rest_of-requires : goal.rest_of-requires
rest_of-requires c = c.loop-p.invariant.new.inside

pub step-u-requires-2 : goal.step-u-requires-2
step-u-requires-2 c = c.loop-p.invariant.new.range

pub returns : goal.returns
returns c = each_over _ _ _ _ c.loop-p.invariant _ (rw c.rest_of.ensures at c.step-u-2.ensures) c.loop-p-test.false
