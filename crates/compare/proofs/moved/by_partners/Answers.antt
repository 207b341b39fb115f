use mathlib.Core.Bool.{not}
use mathlib.Core.Path.{ap}
use native.Mathlib.Omega.{arith}
use Rattle.compare.proofs.MovedRecords.{size-inside, kind-there, next-inside}
use Rattle.compare.proofs.PartnerRecords.{taking-none, taking-far, taking-stops, taking-on}
use Rattle.compare.proofs.moved.by_partners.Goals as goal

pub loop-i-init : goal.loop-i-init
loop-i-init c = let p = c.requires in taking-none _ _ _ _ _ _ p.0 p.1

pub rest_of-rest-requires : goal.rest_of-rest-requires
rest_of-rest-requires c = c.loop-i.invariant.inside

pub shape_of-places-then-size-eq0 : goal.shape_of-places-then-size-eq0
shape_of-places-then-size-eq0 c = let l = c in omega (arith, l.loop-i.invariant.size, l.requires)

pub shape_of-links-then-size-eq0 : goal.shape_of-links-then-size-eq0
shape_of-links-then-size-eq0 c = let l = c in omega (arith, l.loop-i.invariant.linked, l.requires)

pub returns-then-size-eq0 : goal.returns-then-size-eq0
returns-then-size-eq0 c = c.counted.ensures

pub first_of-r-requires : goal.first_of-r-requires
first_of-r-requires c = let r = c in
    size-inside _ _ r.loop-i.invariant.inside _ r.rest_of-rest.ensures _ c.ready-size.ensures c.if-size-eq0.false

pub take_partner-requires : goal.take_partner-requires
take_partner-requires c = let f = c in
    let y = f in
    let r = y in
    let v = r.loop-i.invariant in
    let k = kind-there _ _ v.inside _ r.rest_of-rest.ensures _ y.ready-size.ensures f.if-size-eq0.false _ f.first_of-r.ensures in
    (k, v.few, v.size, v.linked)

pub as_often-requires : goal.as_often-requires
as_often-requires c = let f = c in
    let y = f in
    let r = y in
    let v = r.loop-i.invariant in
    kind-there _ _ v.inside _ r.rest_of-rest.ensures _ y.ready-size.ensures f.if-size-eq0.false _ f.first_of-r.ensures

pub shape_of-places-then-not-as_often : goal.shape_of-places-then-not-as_often
shape_of-places-then-not-as_often c = let t = c in
    let l = t in
    omega (arith, t.take_partner.ensures.size, l.requires)

pub shape_of-links-then-not-as_often : goal.shape_of-links-then-not-as_often
shape_of-links-then-not-as_often c = let t = c in
    let l = t in
    omega (arith, t.links-1.given, l.loop-i.invariant.linked, l.requires)

pub returns-then-not-as_often : goal.returns-then-not-as_often
returns-then-not-as_often c = let f = c in
    let y = f in
    let r = y in
    let l = r in
    taking-stops _ _ _ _ _ _ _ _ l.loop-i.invariant _ r.rest_of-rest.ensures _ y.ready-size.ensures f.if-size-eq0.false l.loop-i-test.true _
    f.first_of-r.ensures _ c.as_often.ensures (ap not c.if-not-as_often.true)

pub shape_of-places-then-not-take_partner : goal.shape_of-places-then-not-take_partner
shape_of-places-then-not-take_partner c = let t = c in
    let l = t in
    omega (arith, t.take_partner.ensures.size, l.requires)

pub shape_of-links-then-not-take_partner : goal.shape_of-links-then-not-take_partner
shape_of-links-then-not-take_partner c = let t = c in
    let l = t in
    omega (arith, t.links-1.given, l.loop-i.invariant.linked, l.requires)

pub returns-then-not-take_partner : goal.returns-then-not-take_partner
returns-then-not-take_partner c = c.counted-then-not-take_partner.ensures

pub overflow_add-at : goal.overflow_add-at
overflow_add-at c = let i = c in
    let y = i in
    let r = y in
    let l = r in
    let n = next-inside _ _ l.loop-i.invariant.inside _ r.rest_of-rest.ensures _ y.ready-size.ensures i.if-size-eq0.false in
    omega (arith, n, l.well_formed)

pub loop-i-preserved : goal.loop-i-preserved
loop-i-preserved c = let k = c in
    let t = k in
    let f = t in
    let y = f in
    let r = y in
    let l = r in
    let v = l.loop-i.invariant in
    taking-on _ _ _ _ _ _ _ _ v _ r.rest_of-rest.ensures _ y.ready-size.ensures f.if-size-eq0.false l.loop-i-test.true _ f.first_of-r.ensures
    _ _ _ t.take_partner.ensures (ap not c.if-not-take_partner.false) (omega (arith, v.linked, k.links-1.given))

pub shape_of-places : goal.shape_of-places
shape_of-places c = let l = c in omega (arith, l.loop-i.invariant.size, l.requires)

pub shape_of-links : goal.shape_of-links
shape_of-links c = let l = c in omega (arith, l.loop-i.invariant.linked, l.requires)

pub returns : goal.returns
returns c = taking-far _ _ _ _ _ _ _ _ c.loop-i.invariant c.loop-i-test.false
