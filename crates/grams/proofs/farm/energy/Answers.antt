-- `grams::farm::energy` meets its contract. Assumes nothing.
use Rattle.std.proofs.Common.{ℕ, pos, ap, ◌∙◌}
use Rattle.grams.specs.Farm.{energy_of}
use Rattle.grams.specs.Units.{grams_co2}
use Rattle.grams.proofs.Bounds.{◌⊗◌, fits, carbon}
use Rattle.grams.proofs.farm.Small.{energy-small}
use Rattle.grams.proofs.farm.energy.Goals as goal

pub returns : goal.returns
unfolding energy_of
returns c = carbon (energy-small c.requires) (c.of.ensures ∙ ap (λ (n : ℕ). grams_co2 (pos n)) c.round_div.ensures)

pub overflow_mul-amount : goal.overflow_mul-amount
overflow_mul-amount c = let p = c.requires in fits (p.amount-in ⊗ p.factor-in) tt
