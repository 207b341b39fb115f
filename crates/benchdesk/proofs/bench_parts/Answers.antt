-- Calls one after the other. Assumes nothing.
use native.Mathlib.Omega.{arith}
use Rattle.benchdesk.proofs.Calls.{going-none, going-ends, taken-inside, written-inside, long-on, going-stops, going_on, next_call}
use Rattle.benchdesk.proofs.bench_parts.Goals as goal

pub loop-call-init : goal.loop-call-init
loop-call-init c = next_call (going-none _ _ _ _ c.new-start.ensures) (omega arith)

pub slice_bounds-feed_part-count : goal.slice_bounds-feed_part-count
slice_bounds-feed_part-count c = c.loop-call.invariant.inside

pub slice_bounds-feed_part-count-in-loop-call : goal.slice_bounds-feed_part-count-in-loop-call
slice_bounds-feed_part-count-in-loop-call c = c.loop-call.invariant.fits

pub overflow_add-i : goal.overflow_add-i
overflow_add-i c = let p = c in
    let a = p.feed_part-fed.ensures in
    omega (arith, taken-inside p.loop-call.invariant (omega arith) a.value a.out_after a.taken_in_bounds, p.well_formed)

pub overflow_add-w : goal.overflow_add-w
overflow_add-w c = let p = c in
    let a = p.feed_part-fed.ensures in
    let g = p.loop-call.invariant in
    omega (arith, written-inside g (omega arith) a.value a.out_after a.taken_in_bounds, g.long, p.well_formed)

pub number-requires : goal.number-requires
number-requires c = c.code_of-code.ensures.upper_bound

pub shape_of-lines-then-code-i : goal.shape_of-lines-then-code-i
shape_of-lines-then-code-i c = let p = c in
    let a = p.feed_part-fed.ensures in
    long-on p.loop-call.invariant (omega arith) a.value a.out_after a.taken_in_bounds

pub returns-then-code-i : goal.returns-then-code-i
returns-then-code-i c = let p = c in
    let a = p.feed_part-fed.ensures in let m = going-stops p.loop-call.invariant (omega arith) a.value a.out_after a.taken_in_bounds _
    c.code_of-code.ensures.value c.if-code-i.true c.number.ensures in record { number = m.0; lines = m.1 }

pub loop-call-preserved : goal.loop-call-preserved
loop-call-preserved c = let p = c in
    let a = p.feed_part-fed.ensures in
    next_call (going_on p.loop-call.invariant (omega arith) a.value a.out_after a.taken_in_bounds _
    c.code_of-code.ensures.value c.if-code-i.false) (omega arith)

pub shape_of-lines : goal.shape_of-lines
shape_of-lines c = c.loop-call.invariant.long

pub returns : goal.returns
returns c = let m = going-ends c.loop-call.invariant (omega arith) c.number-2.ensures in record { number = m.0; lines = m.1 }
