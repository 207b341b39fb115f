use mathlib.Core.Bool.{not}
use mathlib.Core.Path.{ap}
use native.Mathlib.Omega.{arith}
use Rattle.compare.proofs.MovedRecords.{size-inside, kind-there, next-inside}
use Rattle.compare.proofs.MovedRecords.{asking-none, asking-far, asking-ends, asking-stops, asking-on}
use Rattle.compare.proofs.moved.all_as_often.Goals as goal

pub loop-i-init : goal.loop-i-init
loop-i-init c = asking-none _ _ _

pub rest_of-rest-requires : goal.rest_of-rest-requires
rest_of-rest-requires c = c.loop-i.invariant.inside

pub returns-then-size-eq0 : goal.returns-then-size-eq0
returns-then-size-eq0 c = let r = c in
    asking-ends _ _ _ _ _ r.loop-i.invariant _ r.rest_of-rest.ensures _ c.ready-size.ensures c.if-size-eq0.true

pub first_of-requires : goal.first_of-requires
first_of-requires c = let r = c in
    size-inside _ _ r.loop-i.invariant.inside _ r.rest_of-rest.ensures _ c.ready-size.ensures c.if-size-eq0.false

pub as_often-requires : goal.as_often-requires
as_often-requires c = let y = c in
    let r = y in
    kind-there _ _ r.loop-i.invariant.inside _ r.rest_of-rest.ensures _ y.ready-size.ensures c.if-size-eq0.false _
    c.first_of.ensures

pub returns-then-not-as_often : goal.returns-then-not-as_often
returns-then-not-as_often c = let y = c in
    let r = y in
    let l = r in
    asking-stops _ _ _ _ _ l.loop-i.invariant _ r.rest_of-rest.ensures _ y.ready-size.ensures _ c.if-size-eq0.false
    l.loop-i-test.true c.first_of.ensures _ c.as_often.ensures (ap not c.if-not-as_often.true)

pub overflow_add-at : goal.overflow_add-at
overflow_add-at c = let y = c in
    let r = y in
    let l = r in
    let n = next-inside _ _ l.loop-i.invariant.inside _ r.rest_of-rest.ensures _ y.ready-size.ensures c.if-size-eq0.false in
    omega (arith, n, l.well_formed)

pub loop-i-preserved : goal.loop-i-preserved
loop-i-preserved c = let y = c in
    let r = y in
    let l = r in
    asking-on _ _ _ _ _ l.loop-i.invariant _ r.rest_of-rest.ensures _ y.ready-size.ensures _ c.if-size-eq0.false
    l.loop-i-test.true c.first_of.ensures _ c.as_often.ensures (ap not c.if-not-as_often.false)

pub returns : goal.returns
returns c = asking-far _ _ _ _ _ c.loop-i.invariant c.loop-i-test.false
