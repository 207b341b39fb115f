use Rattle.names.specs.Names.{choice_table}
use Rattle.names.proofs.say_choice.Goals as goal

pub returns : goal.returns
unfolding choice_table
returns c = rw (c.nth_choice.ensures, c.cell.ensures) at c.say.ensures
