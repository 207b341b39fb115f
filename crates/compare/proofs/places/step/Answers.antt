use borrow.Author.Rules.{rules}
use Rattle.compare.proofs.places.step.Goals as goal

pub turn-requires : goal.turn-requires
turn-requires c = (c.requires, search rules)

pub returns : goal.returns
returns c = c.turn.ensures.turned
