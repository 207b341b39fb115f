use native.Mathlib.Omega.{arith}
use Rattle.compare.proofs.MovedRecords.{size-inside, next-inside, counting-none, counting-far, counting-ends, counting-on}
use Rattle.compare.proofs.moved.times.Goals as goal

pub loop-i-init : goal.loop-i-init
loop-i-init c = counting-none _ _ _

pub rest_of-rest-requires : goal.rest_of-rest-requires
rest_of-rest-requires c = c.loop-i.invariant.inside

pub returns-then-size-eq0 : goal.returns-then-size-eq0
returns-then-size-eq0 c = let r = c in
    counting-ends _ _ _ _ _ _ r.loop-i.invariant _ r.rest_of-rest.ensures _ c.ready-size.ensures c.if-size-eq0.true

pub first_of-requires : goal.first_of-requires
first_of-requires c = let r = c in
    size-inside _ _ r.loop-i.invariant.inside _ r.rest_of-rest.ensures _ c.ready-size.ensures c.if-size-eq0.false

pub one_if-n-requires : goal.one_if-n-requires
one_if-n-requires c = let l = c in
    omega (arith, l.loop-i.invariant.most, l.loop-i-test.true, l.ranges)

pub overflow_add-at : goal.overflow_add-at
overflow_add-at c = let y = c in
    let r = y in
    let l = r in
    let n = next-inside _ _ l.loop-i.invariant.inside _ r.rest_of-rest.ensures _ y.ready-size.ensures c.if-size-eq0.false in
    omega (arith, n, l.well_formed)

pub loop-i-preserved : goal.loop-i-preserved
loop-i-preserved c = let y = c in
    let r = y in
    let l = r in
    counting-on _ _ _ _ _ _ l.loop-i.invariant _ r.rest_of-rest.ensures _ y.ready-size.ensures _ _ _ c.if-size-eq0.false
    l.loop-i-test.true c.first_of.ensures c.same.ensures c.one_if-n.ensures

pub returns : goal.returns
returns c = counting-far _ _ _ _ _ _ c.loop-i.invariant c.loop-i-test.false
