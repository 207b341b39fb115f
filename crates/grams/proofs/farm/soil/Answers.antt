-- `grams::farm::soil` meets its contract. Assumes nothing.
use Rattle.std.proofs.Common.{ℕ, pos, ap, ◌∙◌}
use Rattle.grams.specs.Farm.{soil_of}
use Rattle.grams.specs.Units.{grams_co2}
use Rattle.grams.proofs.Bounds.{carbon}
use Rattle.grams.proofs.farm.Small.{soil-small}
use Rattle.grams.proofs.farm.soil.Goals as goal

pub returns : goal.returns
unfolding soil_of
returns c = carbon (soil-small c.requires) (c.of.ensures ∙ ap (λ (n : ℕ). grams_co2 (pos n)) c.round_div.ensures)
