-- Assumes nothing.
use native.Mathlib.Omega.{arith}
use Rattle.printing.proofs.Sayings.{said-none}
use Rattle.compare.proofs.end_step.Goals as goal

pub returns : goal.returns
returns c = record { said = said-none (omega arith); cursor = c.at_stage-d.ensures }
