use Rattle.names.specs.Names.{kind_table}
use Rattle.names.proofs.say_kind.Goals as goal

pub returns : goal.returns
unfolding kind_table
returns c = rw c.line_of.ensures at c.say.ensures
