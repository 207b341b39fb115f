-- The line of the group before does not fit, or it does. Assumes nothing.
use mathlib.Core.Path.{◌≡◌, refl}
use native.Mathlib.Omega.{arith}
use borrow.Author.Tests.{le-leb, lt-leb}
use Rattle.account.specs.Told.{group_line}
use Rattle.rules.proofs.heading.headed.Goals as goal

pub returns-then-room-line : goal.returns-then-room-line
returns-then-room-line c =
    let last_line : c.group_line-line.result ≡ group_line c.args.a = c.group_line-line.ensures in
    rw (← last_line, lt-leb _ _ c.if-room-line.true) c.full.ensures

pub overflow_add-next : goal.overflow_add-next
overflow_add-next c = omega (arith, c.requires)

pub returns : goal.returns
returns c =
    let last_line : c.group_line-line.result ≡ group_line c.args.a = c.group_line-line.ensures in
    rw (← last_line, le-leb _ _ c.if-room-line.false, c.by_fields-next.ensures) refl
