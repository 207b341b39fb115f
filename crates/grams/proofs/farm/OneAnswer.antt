-- One answer of each of the farm's own figures: two answers that meet its contract are equal (base, specs/Answers). Assumes nothing.
use Rattle.std.proofs.Common.{sym, ◌∙◌}
use Rattle.base.specs.Answers.{OneAnswer, AsksNothing}
use Rattle.grams.proofs.farm.energy.Kinds as fuel
use Rattle.grams.proofs.farm.energy.Reads as fuel-contract
use Rattle.grams.proofs.farm.soil.Kinds as ground
use Rattle.grams.proofs.farm.soil.Reads as ground-contract
use Rattle.grams.proofs.farm.co2e.Kinds as warmed
use Rattle.grams.proofs.farm.co2e.Reads as warmed-contract
use Rattle.grams.proofs.farm.factors_of.Kinds as set-factors
use Rattle.grams.proofs.farm.factors_of.Reads as set-factors-contract

-- Energy CO2.
pub one-energy : OneAnswer fuel.ps fuel.r fuel-contract.Learnt
one-energy κs args f g e e' p q = p.exact ∙ sym q.exact

-- Organic soil CO2.
pub one-soil : OneAnswer ground.ps ground.r ground-contract.Learnt
one-soil κs args f g e e' p q = p.exact ∙ sym q.exact

-- CO2e.
pub one-co2e : OneAnswer warmed.ps warmed.r warmed-contract.Learnt
one-co2e κs args f g e e' p q = p ∙ sym q

pub factors-of-asks-nothing : AsksNothing set-factors.ps set-factors-contract.Asked
factors-of-asks-nothing κs args = tt

-- The factors of a warming set.
pub one-factors-of : OneAnswer set-factors.ps set-factors.r set-factors-contract.Learnt
one-factors-of κs args f g e e' p q = p ∙ sym q
