-- Assumes nothing.
use Rattle.rules.proofs.lines.grouped_detail.Goals as goal

pub returns : goal.returns
returns c = rw c.sub_summed-subtotal.ensures at c.detailed.ensures
