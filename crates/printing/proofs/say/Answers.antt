-- The text whole where it fits, else its beginning. Assumes nothing.
use Rattle.printing.proofs.Sayings.{said-whole, said-cut, cut_fits}
use Rattle.printing.proofs.say.Goals as goal

pub returns-then-text-room : goal.returns-then-text-room
returns-then-text-room c = said-whole _ c.if-text-room.true c.put_text.ensures

pub put_text-requires-2 : goal.put_text-requires-2
put_text-requires-2 c = cut_fits _ _ _ c.first_of.ensures c.requires

pub returns : goal.returns
returns c = said-cut _ _ c.first_of.ensures c.put_text-2.ensures
