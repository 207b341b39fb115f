use Rattle.names.specs.Names.{unit_table}
use Rattle.names.proofs.say_unit_name.Goals as goal

pub returns : goal.returns
unfolding unit_table
returns c = rw (c.without_first.ensures, c.cell.ensures) at c.say.ensures
