use Prim.Native.Nat.{◌+◌, ◌≤◌}
use mathlib.Core.Path.{◌≡◌, sym, ◌∙◌}
use mathlib.Core.List.{◌++◌}
use mathlib.Core.Bool.{true}
use native.Mathlib.Omega.{arith}
use lib.ListN.{length, drop, length-append}
use Rattle.base.proofs.Tests.{no_bool}
use Rattle.book.specs.Front.{unfinished, front}
use Rattle.book.specs.State.{held_of}
use Rattle.book.proofs.Fronts.{unfinished-short}
use Rattle.book.proofs.Ranges.{begins, range-parts, held-length}
use Rattle.book.proofs.Readings.{reading-none, read-rest, taken-inside, written-inside, read-turn, full-inside, full-more}
use Rattle.book.proofs.Calls.{done_full, done_end, done-ended, meets, meets-outside}
use Rattle.book.proofs.State.feed.Goals as goal

pub returns-then-not-in_range : goal.returns-then-not-in_range
returns-then-not-in_range c = let t = c.in_range in
    let m = meets-outside _ _ _ (sym t.ensures ∙ c.if-not-in_range.true) c.outside.ensures in
    record { result = m.0; lines = m.1.0; counts = m.1.1 }

pub loop-i-init : goal.loop-i-init
loop-i-init c = let t = c.in_range in reading-none _ _ _ (range-parts _ (sym t.ensures ∙ c.if-not-in_range.false))

pub shape_of-out-then-a-ge2 : goal.shape_of-out-then-a-ge2
shape_of-out-then-a-ge2 c = c.loop-i.invariant.long

pub returns-then-a-ge2 : goal.returns-then-a-ge2
returns-then-a-ge2 c = let r = c.loop-i.invariant in let m = meets r c.fed.ensures (done-ended r c.if-a-ge2.true) in
    record { result = m.0; lines = m.1.0; counts = m.1.1 }

pub rest_of-rest-requires : goal.rest_of-rest-requires
rest_of-rest-requires c = c.loop-i.invariant.within

pub unfinished-requires : goal.unfinished-requires
unfinished-requires c = c.loop-i.invariant.range.count

pub hold_more-longer-requires : goal.hold_more-longer-requires
hold_more-longer-requires c =
    let rest-short : c.unfinished.result ≡ true
    → c.loop-i.self.count + length c.rest_of-rest.result.now ≤ 27 = λ e. let s = c.loop-i.self in
    let xs = c.rest_of-rest.result.now in
    let short = unfinished-short (held_of s ++ xs) (begins _ (sym c.unfinished.ensures ∙ e)) in
    omega (arith, short, length-append (held_of s) xs, held-length s c.loop-i.invariant.range) in
    let h = c in (h.loop-i.invariant.range, rest-short c.if-unfinished.true)

pub shape_of-out-then-unfinished : goal.shape_of-out-then-unfinished
shape_of-out-then-unfinished c = c.loop-i.invariant.long

pub returns-then-unfinished : goal.returns-then-unfinished
returns-then-unfinished c =
    let still : c.unfinished.result ≡ true
    → front (held_of c.loop-i.self ++ drop c.loop-i.i c.args.input.now) ≡ unfinished = λ e. begins _ (rw c.rest_of-rest.ensures at (sym c.unfinished.ensures ∙ e)) in
    let u = c in
    let q = read-rest u.loop-i.invariant u.if-a-ge2.false (still c.if-unfinished.true) in
    let m = meets q (rw (c.hold_more-longer.ensures, u.rest_of-rest.ensures) at c.fed-then-unfinished.ensures) (done_end q (omega arith)) in
    record { result = m.0; lines = m.1.0; counts = m.1.1 }

pub slice_bounds-next-count : goal.slice_bounds-next-count
slice_bounds-next-count c = c.loop-i.invariant.fits

pub next-t-requires : goal.next-t-requires
next-t-requires c = let u = c in
    let e = u in
    record {
      range = u.loop-i.invariant.range;
      early = e.if-a-ge2.false;
      more = e.loop-i-test.true;
      finished = λ f. no_bool (sym c.if-unfinished.false ∙ u.unfinished.ensures ∙ rw (u.rest_of-rest.ensures, f));
    }

pub overflow_add-w : goal.overflow_add-w
overflow_add-w c = let t = c in
    let r = t.loop-i.invariant in
    omega (arith, written-inside r t.next-t.ensures, r.long, t.well_formed)

pub overflow_add-i : goal.overflow_add-i
overflow_add-i c = let t = c in omega (arith, taken-inside t.loop-i.invariant t.next-t.ensures, t.well_formed)

pub shape_of-out-then-t : goal.shape_of-out-then-t
shape_of-out-then-t c = let t = c in (read-turn t.loop-i.invariant t.next-t.ensures).long

pub returns-then-t : goal.returns-then-t
returns-then-t c = let t = c in
    let r = t.loop-i.invariant in
    let a = t.next-t.ensures in
    let full = c.if-t.true in
    let q = read-turn r a in
    let m = meets q c.fed-then-t.ensures (done_full q (full-inside r a full) (full-more r a full)) in
    record { result = m.0; lines = m.1.0; counts = m.1.1 }

pub loop-i-smaller : goal.loop-i-smaller
loop-i-smaller c = let t = c in
    let a = t.next-t.ensures in
    omega (arith, taken-inside t.loop-i.invariant a, a.some c.if-t.false)

pub loop-i-preserved : goal.loop-i-preserved
loop-i-preserved c = let t = c in read-turn t.loop-i.invariant t.next-t.ensures

pub shape_of-out : goal.shape_of-out
shape_of-out c = c.loop-i.invariant.long

pub returns : goal.returns
returns c = let r = c.loop-i.invariant in let m = meets r c.fed-2.ensures (done_end r c.loop-i-test.false) in
    record { result = m.0; lines = m.1.0; counts = m.1.1 }
