-- `grams::units::N2oN::to_n2o` meets its contract. Assumes nothing.
use Rattle.std.proofs.Common.{ℕ, ap, ◌∙◌, arith}
use Rattle.grams.specs.Round.{round_div}
use Rattle.grams.specs.Units.{grams_n2o}
use Rattle.grams.proofs.units.N2oN.to_n2o.Goals as goal

pub returns : goal.returns
returns c = ap grams_n2o (c.round_div.ensures ∙ ap (λ (n : ℕ). round_div n 700000000) (omega arith))
