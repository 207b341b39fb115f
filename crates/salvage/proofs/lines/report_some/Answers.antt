-- What is left to tell makes the whole. Assumes nothing.
use Prim.Native.Nat.{◌+◌, ◌-◌, ◌/◌}
use mathlib.Core.Path.{◌≡◌, ap}
use native.Mathlib.Omega.{arith}
use borrow.Author.Tests.{not-true, not-false}
use lib.ListN.{length, length-drop}
use Rattle.salvage.proofs.LineSteps.{going-stop, going_on, going_end}
use Rattle.salvage.proofs.lines.report_some.Goals as goal

pub returns-then-not-t : goal.returns-then-not-t
returns-then-not-t c = let l = c in
    let t = c.report_next-t.ensures in
    let p = c.rest_of.ensures in record { tells = going-stop l.loop-told.invariant (omega (arith, c.loop-told-test.true)) p t.tells (not-true _ c.if-not-t.true); taken_in_bounds = omega (arith, t.written_bound.1, ap length p, length-drop l.loop-told.at l.args.xs.now, l.loop-told.invariant.inside) }

pub loop-told-preserved : goal.loop-told-preserved
loop-told-preserved c = let t = c.report_next-t.ensures in
    let b = t.written_bound in
    let most = length c.args.out.now / 256 in
    let less : most - (c.loop-told.told + 1) ≡ most - c.loop-told.told - 1 = omega arith in
    rw less (going_on c.loop-told.invariant (omega (arith, c.loop-told-test.true)) c.rest_of.ensures
    t.tells (not-false _ c.if-not-t.false) b.0 b.1 b.2 t.number_bound)

pub returns : goal.returns
returns c = record { tells = going_end c.loop-told.invariant (omega arith); taken_in_bounds = c.loop-told.invariant.inside }
