-- Assumes nothing.
use Rattle.rules.proofs.lines.silent.Goals as goal

pub returns : goal.returns
returns c = cc
