-- The line of the row. Assumes nothing.
use Rattle.kinds_screen.specs.Screen.{example_table}
use Rattle.kinds_screen.proofs.say_example.Goals as goal

pub returns : goal.returns
unfolding example_table
returns c = rw c.part-line.ensures at c.say.ensures
