-- One answer of a change of tillage: two answers that meet its contract are equal (base, specs/Answers). Assumes nothing.
use Rattle.std.proofs.Common.{sym, ◌∙◌}
use Rattle.base.specs.Answers.{OneAnswer}
use Rattle.grams.proofs.tillage.tillage.Kinds as ploughed
use Rattle.grams.proofs.tillage.tillage.Reads as ploughed-contract

-- Tillage CO2.
pub one-tillage : OneAnswer ploughed.ps ploughed.r ploughed-contract.Learnt
one-tillage κs args f g e e' p q = p.exact ∙ sym q.exact
