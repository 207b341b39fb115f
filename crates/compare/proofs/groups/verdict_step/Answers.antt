-- Assumes nothing.
use Rattle.compare.proofs.groups.verdict_step.Goals as goal

pub returns : goal.returns
returns c = record { said = rw c.why.ensures at c.say_first-n.ensures; cursor = c.at_stage-d.ensures }
