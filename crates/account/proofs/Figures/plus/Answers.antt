-- Assumes nothing.
use mathlib.Core.Path.{refl}
use native.Mathlib.Omega.{arith}
use Rattle.grams.proofs.Carbon.{within_more}
use Rattle.account.proofs.Figures.plus.Goals as goal

pub plus-co2-requires : goal.plus-co2-requires
plus-co2-requires c = let a = c in (
  a.requires.0.co2,
  within_more a.args.f.co2 1 49152 (omega arith) a.requires.1.co2,
)

pub overflow_add-result-3 : goal.overflow_add-result-3
overflow_add-result-3 c = let p = c.requires in
    omega (arith, p.0.land, p.1.land)

pub returns : goal.returns
returns c = let grazing = c in
    let co2 = grazing in
    rw (co2.plus-n2o.ensures, co2.plus-co2.ensures, grazing.plus-grazing.ensures) refl
