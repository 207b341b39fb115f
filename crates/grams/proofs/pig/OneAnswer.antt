-- One answer of the pig figures: two answers that meet its contract are equal (base, specs/Answers). Assumes nothing.
use Rattle.std.proofs.Common.{sym, ◌∙◌}
use Rattle.base.specs.Answers.{OneAnswer}
use Rattle.grams.proofs.pig.manure.Kinds as pig
use Rattle.grams.proofs.pig.manure.Reads as pig-contract

-- Pig manure: CH4, N2O, excreted and land N.
pub one-manure : OneAnswer pig.ps pig.r pig-contract.Learnt
one-manure κs args f g e e' p q = p.exact ∙ sym q.exact
