-- One answer of grazing: two answers that meet its contract are equal (base, specs/Answers). Assumes nothing.
use Rattle.std.proofs.Common.{sym, ◌∙◌}
use Rattle.base.specs.Answers.{OneAnswer}
use Rattle.grams.proofs.grazing.grazing.Kinds as grass
use Rattle.grams.proofs.grazing.grazing.Reads as grass-contract

-- Grazing.
pub one-grazing : OneAnswer grass.ps grass.r grass-contract.Learnt
one-grazing κs args f g e e' p q = p.exact ∙ sym q.exact
