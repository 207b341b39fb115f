-- `grams::farm::co2e` meets its contract. Assumes nothing.
use Rattle.std.proofs.Common.{◌≡◌, ℕ, ◌*◌, ◌^◌, ◌≤◌, pos, ap, ◌∙◌, arith}
use Rattle.grams.specs.declared.units.Co2.{Co2}
use Rattle.grams.specs.Units.{grams_co2, plus_co2, Co2Within}
use Rattle.grams.specs.Farm.{co2e_of}
use Rattle.grams.proofs.Bounds.{◌⊗◌, fits}
use Rattle.grams.proofs.Carbon.{within-grams}
use Rattle.grams.proofs.farm.Small.{others-most}
use Rattle.grams.proofs.farm.co2e.Goals as goal

-- what CH4, N2O and grazing count for is within the bound of Co2::plus
counted : (c : Co2) (grams : ℕ) → c ≡ grams_co2 (pos grams) → grams ≤ 49152 * 10 ^ 13 → Co2Within 49152 c
counted c grams e h = rw e (within-grams (pos grams) 49152 h)

pub returns : goal.returns
unfolding co2e_of
returns c = c.plus.ensures ∙ ap (plus_co2 c.args.co2) c.of.ensures
    ∙ ap (λ (n : ℕ). plus_co2 c.args.co2 (grams_co2 (pos n))) (rw (c.grams.ensures, c.grams-2.ensures) (omega arith))

pub overflow_mul-others : goal.overflow_mul-others
overflow_mul-others c = let p = c.requires in fits (p.0.ch4-most ⊗ p.1.ch4-in) tt

pub overflow_mul-others-2 : goal.overflow_mul-others-2
overflow_mul-others-2 c = let p = c.requires in rw c.grams.ensures (omega (arith, p.0.n2o-most ⊗ p.1.n2o-in))

pub overflow_add-others : goal.overflow_add-others
overflow_add-others c = let p = c.requires in rw c.grams.ensures (omega (arith, p.0.ch4-most ⊗ p.1.ch4-in, p.0.n2o-most ⊗ p.1.n2o-in))

pub overflow_add-others-2 : goal.overflow_add-others-2
overflow_add-others-2 c = let p = c.requires in
    rw (c.grams-2.ensures, c.grams.ensures) (omega (arith, others-most p.0 p.1.ch4-in p.1.n2o-in p.1.grazing-in))

pub plus-requires : goal.plus-requires
plus-requires c = let p = c.requires in (
  p.1.co2-in,
  counted _ _ c.of.ensures (rw (c.grams-2.ensures, c.grams.ensures)
      (omega (arith, others-most p.0 p.1.ch4-in p.1.n2o-in p.1.grazing-in))),
)
