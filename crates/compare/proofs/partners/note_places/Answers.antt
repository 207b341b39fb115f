use mathlib.Core.Path.{subst}
use native.Mathlib.Omega.{arith}
use Rattle.compare.specs.InnerMoved.{Noted}
use Rattle.compare.proofs.MovedRecords.{size-inside, next-inside}
use Rattle.compare.proofs.PartnerRecords.{noting-none, noting-far, noting-ends, noting-on}
use Rattle.compare.proofs.partners.note_places.Goals as goal

pub loop-i-init : goal.loop-i-init
loop-i-init c = let p = c.requires in noting-none _ _ _ _ p.0 p.1 p.2

pub rest_of-rest-requires : goal.rest_of-rest-requires
rest_of-rest-requires c = c.loop-i.invariant.inside

pub shape_of-places-then-size-eq0 : goal.shape_of-places-then-size-eq0
shape_of-places-then-size-eq0 c = let l = c in omega (arith, l.loop-i.invariant.size, l.requires)

pub shape_of-links-then-size-eq0 : goal.shape_of-links-then-size-eq0
shape_of-links-then-size-eq0 c = let l = c in omega (arith, l.loop-i.invariant.linked, l.requires)

pub returns-then-size-eq0 : goal.returns-then-size-eq0
returns-then-size-eq0 c = let r = c in
    noting-ends _ _ _ _ _ _ r.loop-i.invariant _ r.rest_of-rest.ensures _ c.ready-size.ensures c.if-size-eq0.true

pub first_of-requires : goal.first_of-requires
first_of-requires c = let y = c in
    let r = y in
    size-inside _ _ r.loop-i.invariant.inside _ r.rest_of-rest.ensures _ y.ready-size.ensures c.if-size-eq0.false

pub add_link-requires : goal.add_link-requires
add_link-requires c = let l = c in
    let v = l.loop-i.invariant in
    (omega (arith, v.few, l.loop-i-test.true), v.linked)

pub offset_bounds-places-i : goal.offset_bounds-places-i
offset_bounds-places-i c = let l = c in omega (arith, l.loop-i.invariant.few, l.loop-i-test.true)

pub bounds-places-i : goal.bounds-places-i
bounds-places-i c = let l = c in
    let v = l.loop-i.invariant in
    omega (arith, v.few, v.size, l.loop-i-test.true)

pub overflow_add-at : goal.overflow_add-at
overflow_add-at c = let i = c in
    let y = i in
    let r = y in
    let l = r in
    let n = next-inside _ _ l.loop-i.invariant.inside _ r.rest_of-rest.ensures _ y.ready-size.ensures i.if-size-eq0.false in
    omega (arith, n, l.well_formed)

pub loop-i-preserved : goal.loop-i-preserved
loop-i-preserved c = let i = c in
    let y = i in
    let r = y in
    let l = r in
    let v = l.loop-i.invariant in
    noting-on _ _ _ _ _ _ v _ r.rest_of-rest.ensures _ y.ready-size.ensures _ i.if-size-eq0.false l.loop-i-test.true
    (omega (arith, v.linked, c.links-1.given))

pub shape_of-places : goal.shape_of-places
shape_of-places c = let l = c in omega (arith, l.loop-i.invariant.size, l.requires)

pub shape_of-links : goal.shape_of-links
shape_of-links c = let l = c in omega (arith, l.loop-i.invariant.linked, l.requires)

pub returns : goal.returns
returns c = let v = c.loop-i.invariant in
    subst (Noted _ _ _) (omega (arith, v.most, c.loop-i-test.false)) (noting-far _ _ _ _ _ _ v c.loop-i-test.false)
