-- The lines do not fit, or they do. Assumes nothing.
use mathlib.Core.Path.{◌≡◌, refl}
use native.Mathlib.Omega.{arith}
use Rattle.account.specs.Told.{closing}
use Rattle.account.proofs.Told.{stays-full, fits_whole}
use Rattle.rules.proofs.close.totalled.Goals as goal

pub returns-then-room-line : goal.returns-then-room-line
returns-then-room-line c =
    let lines : c.closing-line.result ≡ (closing c.args.a).line = rw (c.group_figures-f.ensures, c.co2e-co2e.ensures) at c.closing-line.ensures in
    stays-full _ _ _ _ _ c.full.ensures (lines) c.if-room-line.true

pub overflow_add-next : goal.overflow_add-next
overflow_add-next c = omega (arith, c.requires.0)

pub returns : goal.returns
returns c =
    let lines : c.closing-line.result ≡ (closing c.args.a).line = rw (c.group_figures-f.ensures, c.co2e-co2e.ensures) at c.closing-line.ensures in
    fits_whole _ _ _ _ (rw c.by_fields-next.ensures refl) (lines) c.if-room-line.false
