use mathlib.Core.Path.{refl, ap, sym}
use native.Mathlib.Omega.{arith}
use lib.ListN.{length, length-drop}
use Rattle.book.proofs.MovedBytes.{gathered-first}
use Rattle.book.proofs.OneTurn.{begins-idle, turned-idle, begins-gathered, turned-gathered}
use Rattle.book.proofs.State.next.Goals as goal

pub rest_of-rest-requires : goal.rest_of-rest-requires
rest_of-rest-requires c = omega (arith, c.requires.more)

pub turn-requires : goal.turn-requires
turn-requires c = let r = c in begins-idle r.requires c.if-self-eq0.true r.rest_of-rest.ensures

pub gather-n-requires : goal.gather-n-requires
gather-n-requires c = let r = c in
    let s = r in
    (s.requires.range, omega (arith, ap length r.rest_of-rest.ensures, length-drop s.args.i s.args.input.now, s.requires.more), refl)

pub slice_bounds-first_record-end : goal.slice_bounds-first_record-end
slice_bounds-first_record-end c = sym c.gather-n.ensures.places

pub first_record-cut-requires : goal.first_record-cut-requires
first_record-cut-requires c = let g = c.gather-n.ensures in (omega (arith, g.places), omega (arith, g.places, g.array))

pub slice_bounds-first_of-end : goal.slice_bounds-first_of-end
slice_bounds-first_of-end c = sym c.gather-n.ensures.places

pub first_of-src-requires : goal.first_of-src-requires
first_of-src-requires c = omega (arith, c.first_record-cut.ensures, c.gather-n.ensures.array)

pub turn-requires-else-self-eq0 : goal.turn-requires-else-self-eq0
turn-requires-else-self-eq0 c = let f = c in
    let r = f in
    let g = gathered-first _ _ _ _ _ f.gather-n.ensures r.requires.range.begun f.first_record-cut.ensures in
    begins-gathered r.requires r.rest_of-rest.ensures g c.first_of-src.ensures

pub shape_of-out-then-self-eq0 : goal.shape_of-out-then-self-eq0
shape_of-out-then-self-eq0 c = c.turn.ensures.long

pub returns-then-self-eq0 : goal.returns-then-self-eq0
returns-then-self-eq0 c = let r = c in
    turned-idle r.requires c.if-self-eq0.true r.rest_of-rest.ensures c.turn.ensures

pub shape_of-out-else-self-eq0 : goal.shape_of-out-else-self-eq0
shape_of-out-else-self-eq0 c = c.turn-else-self-eq0.ensures.long

pub returns-else-self-eq0 : goal.returns-else-self-eq0
returns-else-self-eq0 c = let o = c in
    let f = o in
    let r = f in
    let g = gathered-first _ _ _ _ _ f.gather-n.ensures r.requires.range.begun f.first_record-cut.ensures in
    turned-gathered r.requires r.rest_of-rest.ensures g o.first_of-src.ensures c.turn-else-self-eq0.ensures
