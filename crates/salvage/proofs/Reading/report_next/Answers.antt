use Prim.Native.Nat.{◌<◌}
use native.Mathlib.Omega.{arith}
use Rattle.salvage.proofs.LineSteps.{tells_none, tells-one, four}
use Rattle.salvage.proofs.Reading.report_next.Goals as goal

pub returns-then-t-eq0 : goal.returns-then-t-eq0
returns-then-t-eq0 c = let t = c in
    let s = t in record { tells = tells_none t.turn-t.ensures c.if-t-eq0.true _ _ (omega (arith, s.requires.2)); written_bound = (omega arith, omega arith, s.requires.0); number_bound = omega arith }

pub bounds-xs-3 : goal.bounds-xs-3
bounds-xs-3 c = let e = c in four e.turn-t.ensures (omega (arith, e.if-t-eq0.false))

pub returns : goal.returns
returns c = let e = c in
    let t = e in
    let s = t in
    let v = t.turn-t.ensures in
    let h : 0 < t.turn-t.result.n = omega (arith, e.if-t-eq0.false) in
    let r = tells-one v h s.requires.0 (omega (arith, s.requires.1)) _ _ _ _ s.requires.2 c.put_line-end.ensures in record { tells = r.0; written_bound = (r.1, v.inside, v.opened); number_bound = omega (arith, v.number h) }
