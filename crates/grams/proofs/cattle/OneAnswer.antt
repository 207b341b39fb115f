-- One answer of each cattle figure: two answers that meet its contract are equal (base, specs/Answers). Assumes nothing.
use Rattle.std.proofs.Common.{sym, ◌∙◌}
use Rattle.base.specs.Answers.{OneAnswer}
use Rattle.grams.proofs.cattle.enteric.Kinds as methane
use Rattle.grams.proofs.cattle.enteric.Reads as methane-contract
use Rattle.grams.proofs.cattle.nitrogen.Kinds as nitrogen
use Rattle.grams.proofs.cattle.nitrogen.Reads as nitrogen-contract

-- Enteric CH4.
pub one-enteric : OneAnswer methane.ps methane.r methane-contract.Learnt
one-enteric κs args f g e e' p q = p.exact ∙ sym q.exact

-- Cattle nitrogen: X below zero, or excreted N and N2O.
pub one-nitrogen : OneAnswer nitrogen.ps nitrogen.r nitrogen-contract.Learnt
one-nitrogen κs args f g e e' p q = p.exact ∙ sym q.exact
