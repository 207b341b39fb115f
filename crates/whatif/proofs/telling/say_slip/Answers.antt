-- The slip's line, and the kg of feed times 1. Assumes nothing.
use lib.Ieee.{of_bits, round}
use Rattle.std.proofs.Common.{◌∙◌}
use Rattle.printing.proofs.Sayings.{text-at-start}
use Rattle.whatif.proofs.Tellings.{slip-said}
use Rattle.whatif.proofs.telling.say_slip.Goals as goal

pub returns : goal.returns
unfolding of_bits round
returns c =
    let line = c.first_of.ensures ∙ text-at-start c.put_slip-n.ensures.put in
    slip-said 0 c.args.ration c.args.change c.what_if-slip.ensures.exact c.what_if-before.ensures.exact (rw line at c.say.ensures)
