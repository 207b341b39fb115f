-- Each turn goes on with the series. Assumes nothing.
use Rattle.std.proofs.Common.{◌≤◌, length, refl, arith, rules}
use borrow.Author.Tests.{not-true, not-false}
use Rattle.retype.specs.Book.{line_most}
use Rattle.retype_main.proofs.Turns.{running_none, running-on, running-end}
use Rattle.retype_main.proofs.run.Goals as goal

pub loop-init : goal.loop-init
loop-init g c = (refl, running_none _ _ c.requires.0)

pub returns-then-not-w : goal.returns-then-not-w
returns-then-not-w g c = (c.loop.invariant.1.going, not-true _ c.if-not-w.true)

pub turn-w-requires : goal.turn-w-requires
turn-w-requires g c = c.loop.invariant.1.going.inside

pub loop-preserved : goal.loop-preserved
loop-preserved g c =
    let t = c.turn-w.ensures in
    let long : line_most ≤ length c.loop.text = omega (arith, c.loop.invariant.0, c.requires.2) in
    (search rules, running-on c.loop.invariant.1 _ (omega arith) (omega arith) long (not-false _ c.if-not-w.false) t.turned t.at_in_bounds)

pub returns : goal.returns
returns g c = (c.loop.invariant.1.going, running-end c.loop.invariant.1 (omega arith) c.requires.1)
