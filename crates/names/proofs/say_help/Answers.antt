use Rattle.names.specs.Names.{help_table}
use Rattle.names.proofs.say_help.Goals as goal

pub returns : goal.returns
unfolding help_table
returns c = rw c.cell-text.ensures at c.say.ensures
