use Rattle.names.specs.Usual.{usual_table}
use Rattle.names.proofs.usual.say_ranges.Goals as goal

pub returns : goal.returns
unfolding usual_table
returns c = rw c.cell.ensures at c.say.ensures
