use Prim.Native.Nat.{◌+◌, ◌<◌}
use native.Mathlib.Omega.{arith}
use lib.ListN.{drop}
use Rattle.salvage.specs.Inner.{Turned}
use Rattle.salvage.proofs.OnePass.{Measuring, measuring-on, measured, nothing_left}
use Rattle.salvage.proofs.passes.measure.Goals as goal

pub returns-then-t-eq0 : goal.returns-then-t-eq0
returns-then-t-eq0 c =
    let turned : Turned c.loop-at.s (drop c.loop-at.at c.args.damaged.now) c.turn-t.result = rw c.rest_of-rest.ensures at c.turn-t.ensures in
    let t = c in measured t.loop-at.invariant ((turned).ended c.if-t-eq0.true)

pub loop-at-preserved : goal.loop-at-preserved
loop-at-preserved c =
    let turned : Turned c.loop-at.s (drop c.loop-at.at c.args.damaged.now) c.turn-t.result = rw c.rest_of-rest.ensures at c.turn-t.ensures in
    let some : 0 < c.turn-t.result.n = omega (arith, c.if-t-eq0.false) in
    let on : let e = c in
    let t = e in
    let l = t.loop-at in
    Measuring t.args.damaged.now t.turn-t.result.next (l.at + t.turn-t.result.n) (l.book + c.by_code-book.result)
    (l.dropped + c.by_code-dropped.result) = let e = c in
    let t = e in
    rw (c.by_code-book.ensures, c.by_code-dropped.ensures) (measuring-on _ _ (turned) (some) t.loop-at.invariant) in
    on

pub returns : goal.returns
returns c = let l = c.loop-at in measured l.invariant (nothing_left l.s _ l.at c.loop-at-test.false)
