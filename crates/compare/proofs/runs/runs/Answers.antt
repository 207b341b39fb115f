-- Assumes nothing.
use native.Mathlib.Omega.{arith}
use Rattle.compare.proofs.Pairs.{pairing-none, pair_inside, pair-inside', pairing-ends, pairing-on, pairing-far}
use Rattle.compare.proofs.runs.runs.Goals as goal

pub loop-k-init : goal.loop-k-init
loop-k-init c = pairing-none _ _ _ c.args.p c.args.q c.requires.0 c.requires.1

pub rest_of-requires : goal.rest_of-requires
rest_of-requires c = c.loop-k.invariant.inside

pub rest_of-requires-in-loop-k : goal.rest_of-requires-in-loop-k
rest_of-requires-in-loop-k c = c.loop-k.invariant.inside'

pub look-l-requires : goal.look-l-requires
look-l-requires c = let i = c.loop-k.invariant in (i.range, i.range')

pub returns-then-l-eq0 : goal.returns-then-l-eq0
returns-then-l-eq0 c = pairing-ends _ _ _ _ _ _ _ _ _ _ _ c.loop-k.invariant _ _ c.rest_of.ensures c.rest_of-in-loop-k.ensures _ c.look-l.ensures
    c.if-l-eq0.true

pub one_more-u-requires : goal.one_more-u-requires
one_more-u-requires c = let n = c.loop-k.invariant.counts in
    let m = c.loop-k-test.true in
    let f = c.ranges in
    record {
      pairs = omega (arith, n.pairs, m, f);
      leading = omega (arith, n.leading, m, f);
      trailing = omega (arith, n.trailing, m, f);
      first = omega (arith, n.first, m, f);
      last = omega (arith, n.last, m, f);
      others = omega (arith, n.others, m, f);
    }

pub overflow_add-at : goal.overflow_add-at
overflow_add-at c = omega
    (arith, pair_inside _ _ _ _ _ _ _ _ _ _ _ c.loop-k.invariant _ _ c.rest_of.ensures c.rest_of-in-loop-k.ensures _ c.look-l.ensures, c.well_formed)

pub overflow_add-to : goal.overflow_add-to
overflow_add-to c = omega
    (arith, pair-inside' _ _ _ _ _ _ _ _ _ _ _ c.loop-k.invariant _ _ c.rest_of.ensures c.rest_of-in-loop-k.ensures _ c.look-l.ensures, c.well_formed)

pub loop-k-preserved : goal.loop-k-preserved
loop-k-preserved c = pairing-on _ _ _ _ _ _ _ _ _ _ _ c.loop-k.invariant _ _ c.rest_of.ensures c.rest_of-in-loop-k.ensures _ c.look-l.ensures _
    c.loop-k-test.true c.one_more-u.ensures c.if-l-eq0.false

pub returns : goal.returns
returns c = pairing-far _ _ _ _ _ _ _ _ _ _ _ c.loop-k.invariant c.loop-k-test.false
