use Rattle.names.specs.Names.{field_table}
use Rattle.names.proofs.say_fields.Goals as goal

pub returns : goal.returns
unfolding field_table
returns c = rw c.line_of.ensures at c.say.ensures
