-- One answer of each public function (base, specs/Answers). Here of the rounding and of grams, which all figures share; of a figure below its own
-- module. The figures ask their ranges of their caller, who is the book reader; what asks nothing says so first. Assumes nothing.
use Rattle.std.proofs.Common.{sym, ◌∙◌}
use Rattle.base.specs.Answers.{AsksNothing, OneAnswer}
use Rattle.grams.proofs.rounding.round_div.Kinds as division
use Rattle.grams.proofs.rounding.round_div.Reads as division-contract
use Rattle.grams.proofs.units.Co2.from_word.Kinds as told-air
use Rattle.grams.proofs.units.Co2.from_word.Reads as told-air-contract
use Rattle.grams.proofs.units.Co2.of.Kinds as air
use Rattle.grams.proofs.units.Co2.of.Reads as air-contract
use Rattle.grams.proofs.units.Co2.plus.Kinds as air-sum
use Rattle.grams.proofs.units.Co2.plus.Reads as air-sum-contract
use Rattle.grams.proofs.units.Co2.same.Kinds as moved-air
use Rattle.grams.proofs.units.Co2.same.Reads as moved-air-contract
use Rattle.grams.proofs.units.Co2.taken_up.Kinds as taken-air
use Rattle.grams.proofs.units.Co2.taken_up.Reads as taken-air-contract
use Rattle.grams.proofs.units.Co2.within.Kinds as air-bound
use Rattle.grams.proofs.units.Co2.within.Reads as air-bound-contract
use Rattle.grams.proofs.units.Co2.word.Kinds as laid-air
use Rattle.grams.proofs.units.Co2.word.Reads as laid-air-contract
use Rattle.grams.proofs.units.Grazed.grams.Kinds as grazed-weight
use Rattle.grams.proofs.units.Grazed.grams.Reads as grazed-weight-contract
use Rattle.grams.proofs.units.Grazed.of.Kinds as grazed
use Rattle.grams.proofs.units.Grazed.of.Reads as grazed-contract
use Rattle.grams.proofs.units.Grazed.plus.Kinds as grazed-sum
use Rattle.grams.proofs.units.Grazed.plus.Reads as grazed-sum-contract
use Rattle.grams.proofs.units.Grazed.same.Kinds as moved-grazed
use Rattle.grams.proofs.units.Grazed.same.Reads as moved-grazed-contract
use Rattle.grams.proofs.units.N2o.grams.Kinds as weight
use Rattle.grams.proofs.units.N2o.grams.Reads as weight-contract
use Rattle.grams.proofs.units.N2o.of.Kinds as laughing
use Rattle.grams.proofs.units.N2o.of.Reads as laughing-contract
use Rattle.grams.proofs.units.N2o.plus.Kinds as sum
use Rattle.grams.proofs.units.N2o.plus.Reads as sum-contract
use Rattle.grams.proofs.units.N2o.same.Kinds as moved
use Rattle.grams.proofs.units.N2o.same.Reads as moved-contract
use Rattle.grams.proofs.units.N2oN.of.Kinds as parts
use Rattle.grams.proofs.units.N2oN.of.Reads as parts-contract
use Rattle.grams.proofs.units.N2oN.to_n2o.Kinds as gas
use Rattle.grams.proofs.units.N2oN.to_n2o.Reads as gas-contract

pub co2-of-asks-nothing : AsksNothing air.ps air-contract.Asked
co2-of-asks-nothing κs args = tt

pub co2-taken-up-asks-nothing : AsksNothing taken-air.ps taken-air-contract.Asked
co2-taken-up-asks-nothing κs args = tt

pub co2-same-asks-nothing : AsksNothing moved-air.ps moved-air-contract.Asked
co2-same-asks-nothing κs args = tt

pub co2-word-asks-nothing : AsksNothing laid-air.ps laid-air-contract.Asked
co2-word-asks-nothing κs args = tt

pub co2-from-word-asks-nothing : AsksNothing told-air.ps told-air-contract.Asked
co2-from-word-asks-nothing κs args = tt

pub grazed-of-asks-nothing : AsksNothing grazed.ps grazed-contract.Asked
grazed-of-asks-nothing κs args = tt

pub grazed-same-asks-nothing : AsksNothing moved-grazed.ps moved-grazed-contract.Asked
grazed-same-asks-nothing κs args = tt

pub grazed-grams-asks-nothing : AsksNothing grazed-weight.ps grazed-weight-contract.Asked
grazed-grams-asks-nothing κs args = tt

pub n2o-of-asks-nothing : AsksNothing laughing.ps laughing-contract.Asked
n2o-of-asks-nothing κs args = tt

pub n2o-same-asks-nothing : AsksNothing moved.ps moved-contract.Asked
n2o-same-asks-nothing κs args = tt

pub n2o-grams-asks-nothing : AsksNothing weight.ps weight-contract.Asked
n2o-grams-asks-nothing κs args = tt

pub n2o-n-of-asks-nothing : AsksNothing parts.ps parts-contract.Asked
n2o-n-of-asks-nothing κs args = tt

-- Grams as CO2.
pub one-co2-of : OneAnswer air.ps air.r air-contract.Learnt
one-co2-of κs args f g e e' p q = p ∙ sym q

-- Grams taken up as CO2.
pub one-co2-taken-up : OneAnswer taken-air.ps taken-air.r taken-air-contract.Learnt
one-co2-taken-up κs args f g e e' p q = p ∙ sym q

-- CO2 moved.
pub one-co2-same : OneAnswer moved-air.ps moved-air.r moved-air-contract.Learnt
one-co2-same κs args f g e e' p q = p ∙ sym q

-- CO2 as it is laid into 8 bytes.
pub one-co2-word : OneAnswer laid-air.ps laid-air.r laid-air-contract.Learnt
one-co2-word κs args f g e e' p q = p ∙ sym q

pub one-co2-from-word : OneAnswer told-air.ps told-air.r told-air-contract.Learnt
one-co2-from-word κs args f g e e' p q = p ∙ sym q

-- CO2 added.
pub one-co2-plus : OneAnswer air-sum.ps air-sum.r air-sum-contract.Learnt
one-co2-plus κs args f g e e' p q = p ∙ sym q

-- Whether so many records reach it.
pub one-co2-within : OneAnswer air-bound.ps air-bound.r air-bound-contract.Learnt
one-co2-within κs args f g e e' p q = p ∙ sym q

-- Grams as N2O.
pub one-n2o-of : OneAnswer laughing.ps laughing.r laughing-contract.Learnt
one-n2o-of κs args f g e e' p q = p ∙ sym q

-- N2O moved.
pub one-n2o-same : OneAnswer moved.ps moved.r moved-contract.Learnt
one-n2o-same κs args f g e e' p q = p ∙ sym q

-- The grams of N2O.
pub one-n2o-grams : OneAnswer weight.ps weight.r weight-contract.Learnt
one-n2o-grams κs args f g e e' p q = p ∙ sym q

-- N2O added.
pub one-n2o-plus : OneAnswer sum.ps sum.r sum-contract.Learnt
one-n2o-plus κs args f g e e' p q = p ∙ sym q

-- N2O-N from its parts.
pub one-n2o-n-of : OneAnswer parts.ps parts.r parts-contract.Learnt
one-n2o-n-of κs args f g e e' p q = p ∙ sym q

-- N2O-N as N2O.
pub one-to-n2o : OneAnswer gas.ps gas.r gas-contract.Learnt
one-to-n2o κs args f g e e' p q = p ∙ sym q

-- round(n/d).
pub one-round-div : OneAnswer division.ps division.r division-contract.Learnt
one-round-div κs args f g e e' p q = p ∙ sym q

-- Grams as CO2e of grazing.
pub one-grazed-of : OneAnswer grazed.ps grazed.r grazed-contract.Learnt
one-grazed-of κs args f g e e' p q = p ∙ sym q

-- CO2e of grazing moved.
pub one-grazed-same : OneAnswer moved-grazed.ps moved-grazed.r moved-grazed-contract.Learnt
one-grazed-same κs args f g e e' p q = p ∙ sym q

-- The grams of it.
pub one-grazed-grams : OneAnswer grazed-weight.ps grazed-weight.r grazed-weight-contract.Learnt
one-grazed-grams κs args f g e e' p q = p ∙ sym q

-- CO2e of grazing added.
pub one-grazed-plus : OneAnswer grazed-sum.ps grazed-sum.r grazed-sum-contract.Learnt
one-grazed-plus κs args f g e e' p q = p ∙ sym q
