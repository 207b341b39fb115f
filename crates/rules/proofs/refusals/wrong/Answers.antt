-- Assumes nothing.
use Rattle.rules.proofs.refusals.wrong.Goals as goal

pub returns : goal.returns
returns c = cc
