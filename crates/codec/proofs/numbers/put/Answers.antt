-- One byte, two, four or eight. Assumes nothing.
use mathlib.Core.Path.{◌≡◌}
use native.Mathlib.Omega.{arith}
use Rattle.codec.proofs.numbers.put.Goals as goal

pub returns-in-1 : goal.returns-in-1
returns-in-1 c = rw c.in-1.is c.put1.ensures

pub returns-in-2 : goal.returns-in-2
returns-in-2 c = rw c.in-2.is c.put2.ensures

pub returns-in-4 : goal.returns-in-4
returns-in-4 c = rw c.in-4.is c.put4.ensures

pub returns-in_default : goal.returns-in_default
returns-in_default c =
    let is-eight : c.args.w ≡ 8 = omega (arith, c.requires) in
    rw (is-eight) c.put8.ensures
