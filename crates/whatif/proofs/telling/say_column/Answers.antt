-- A word of the table. Assumes nothing.
use Rattle.whatif.specs.Told.{columns}
use Rattle.whatif.proofs.telling.say_column.Goals as goal

pub returns : goal.returns
unfolding columns
returns c = rw c.word.ensures at c.say.ensures
