-- Assumes nothing.
use Prim.Native.Nat.{◌<◌}
use native.Mathlib.Omega.{arith}
use Rattle.compare.proofs.Walks.{long-enough, passed-at, part_none, part_out, part_end, part-on, part-far}
use Rattle.compare.proofs.places.end_of_part.Goals as goal

pub loop-q-init : goal.loop-q-init
loop-q-init c = part_none _ _ c.requires

pub rest_of-rest-requires : goal.rest_of-rest-requires
rest_of-rest-requires c = c.loop-q.invariant.valid.inside

pub step-t-requires : goal.step-t-requires
step-t-requires c = c.loop-q.invariant.valid.range

pub returns-then-t-eq0 : goal.returns-then-t-eq0
returns-then-t-eq0 c = let e = part_out _ _ _ c.loop-q.invariant _ (rw c.rest_of-rest.ensures at c.step-t.ensures) c.if-t-eq0.true in
    record { value = (e.is, e.valid); number_value = e.number }

pub first_of-requires : goal.first_of-requires
first_of-requires c = c.step-t.ensures.inside

pub ends-requires : goal.ends-requires
ends-requires c = long-enough _ _ _ c.first_of.ensures c.step-t.ensures.inside (c.step-t.ensures.some (omega (arith, c.if-t-eq0.false)))

pub returns-then-ends : goal.returns-then-ends
returns-then-ends c = let e = part_end _ _ _ c.loop-q.invariant _ (rw c.rest_of-rest.ensures at c.step-t.ensures) (omega (arith, c.if-t-eq0.false)) _
    (rw (c.first_of.ensures, c.rest_of-rest.ensures) at c.ends.ensures) c.if-ends.true in record { value = (e.is, e.valid); number_value = e.number }

pub after-q-requires : goal.after-q-requires
after-q-requires c = (c.loop-q.invariant.valid, (rw c.rest_of-rest.ensures at c.step-t.ensures), omega (arith, c.if-t-eq0.false))

pub loop-q-smaller : goal.loop-q-smaller
loop-q-smaller c = let k : 0 < c.step-t.result.n = omega (arith, c.if-t-eq0.false) in
    let m = passed-at _ _ c.loop-q.invariant.valid _ (rw c.rest_of-rest.ensures at c.step-t.ensures) k _ c.after-q.ensures.0 in
    omega (arith, m, k, c.loop-q-test.true)

pub loop-q-preserved : goal.loop-q-preserved
loop-q-preserved c = let a = c.after-q.ensures in
    part-on _ _ _ c.loop-q.invariant _ (rw c.rest_of-rest.ensures at c.step-t.ensures) (omega (arith, c.if-t-eq0.false)) _
    (rw (c.first_of.ensures, c.rest_of-rest.ensures) at c.ends.ensures) _ c.if-ends.false a.0 a.1

pub returns : goal.returns
returns c = let e = part-far _ _ _ c.loop-q.invariant c.loop-q-test.false in record { value = (e.is, e.valid); number_value = e.number }
