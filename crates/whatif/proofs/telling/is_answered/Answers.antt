-- The code of the slip. Assumes nothing.
use Rattle.whatif.proofs.telling.is_answered.Goals as goal

pub returns : goal.returns
returns c = rw c.what_if-slip.ensures.exact
