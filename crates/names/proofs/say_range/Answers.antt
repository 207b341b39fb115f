use Rattle.names.specs.Names.{expected_table}
use Rattle.names.proofs.say_range.Goals as goal

pub returns : goal.returns
unfolding expected_table
returns c = rw c.cell-text.ensures at c.say.ensures
