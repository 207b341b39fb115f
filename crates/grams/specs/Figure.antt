-- Document 01, "Lines, calls and state": a figure is what its rule gives, and it keeps within its bound for a record. Assumes nothing.
use Rattle.std.specs.Prelude.{◌≡◌, ℕ, ◌≤◌}
use Rattle.grams.specs.declared.units.Co2.{Co2}
use Rattle.grams.specs.declared.units.Grazed.{Grazed}
use Rattle.grams.specs.declared.units.N2o.{N2o}
use Rattle.grams.specs.Units.{Co2Within}

-- r is the rule's value, and at most so much
pub record Figure (value most r : ℕ) : Type 0 where
  pub exact : r ≡ value
  pub small : r ≤ most

-- the same of grams of N2O
pub record Gas (value : N2o) (most : ℕ) (r : N2o) : Type 0 where
  pub exact : r ≡ value
  pub small : r.0 ≤ most

-- the same of grams of CO2, within what one record reaches
pub record Carbon (value r : Co2) : Type 0 where
  pub exact : r ≡ value
  pub small : Co2Within 1 r

-- the same of grams of CO2e of grazing
pub record Pasture (value : Grazed) (most : ℕ) (r : Grazed) : Type 0 where
  pub exact : r ≡ value
  pub small : r.0 ≤ most
