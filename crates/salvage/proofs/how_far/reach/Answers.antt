use Prim.Native.Nat.{◌+◌, ◌<◌}
use native.Mathlib.Omega.{arith}
use lib.ListN.{drop}
use Rattle.salvage.specs.Inner.{Turned}
use Rattle.salvage.proofs.AfterEnd.{Going, going_on, going-ends, left-stops}
use Rattle.salvage.proofs.how_far.reach.Goals as goal

pub returns-then-t-eq0 : goal.returns-then-t-eq0
returns-then-t-eq0 c =
    let turned : Turned c.loop-at.s (drop c.loop-at.at c.args.damaged.now) c.turn-t.result = rw c.rest_of-rest.ensures at c.turn-t.ensures in
    let t = c in going-ends _ _ t.loop-at.invariant ((turned).stops c.if-t-eq0.true)

pub loop-at-preserved : goal.loop-at-preserved
loop-at-preserved c =
    let turned : Turned c.loop-at.s (drop c.loop-at.at c.args.damaged.now) c.turn-t.result = rw c.rest_of-rest.ensures at c.turn-t.ensures in
    let some : 0 < c.turn-t.result.n = omega (arith, c.if-t-eq0.false) in
    let on : let t = c in
    let l = t.loop-at in
    Going t.args.damaged.now t.turn-t.result.next (l.at + t.turn-t.result.n) = let t = c in going_on _ _ (turned) (some) t.loop-at.invariant in
    on

pub returns : goal.returns
returns c = let l = c.loop-at in going-ends _ _ l.invariant (left-stops l.s _ l.at c.loop-at-test.false)
