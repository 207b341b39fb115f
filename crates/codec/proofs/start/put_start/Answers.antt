-- `codec::start::put_start` meets its contract. Assumes nothing.
use Rattle.codec.proofs.start.put_start.Goals as goal

pub returns : goal.returns
returns c = c.put_versioned.ensures
