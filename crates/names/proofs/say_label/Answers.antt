use Rattle.names.specs.Names.{field_table}
use Rattle.names.proofs.say_label.Goals as goal

pub returns : goal.returns
unfolding field_table
returns c = rw (c.without_first.ensures, c.part.ensures, c.line_of.ensures) at c.say.ensures
