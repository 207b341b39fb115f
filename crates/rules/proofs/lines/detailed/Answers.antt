-- The line does not fit, or it does. Assumes nothing.
use Prim.Native.Nat.{◌≤◌, ◌<◌}
use mathlib.Core.Path.{refl}
use Rattle.account.proofs.Told.{stays-full, fits_whole}
use Rattle.rules.proofs.lines.detailed.Goals as goal

pub returns-then-room-lt-LINE_SIZE : goal.returns-then-room-lt-LINE_SIZE
returns-then-room-lt-LINE_SIZE c = let e = c.one-line.ensures in
    let short : c.args.room < c.one-line.result.given = rw e c.if-room-lt-LINE_SIZE.true in
    stays-full _ _ _ _ _ c.full.ensures e short

pub returns : goal.returns
returns c = let left = c in
    let e = left.one-line.ensures in
    let room : left.one-line.result.given ≤ left.args.room = rw e left.if-room-lt-LINE_SIZE.false in
    fits_whole _ _ _ _ (rw (c.by_fields-next.ensures, c.plus-more.ensures) refl) e room
