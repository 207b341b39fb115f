use Rattle.names.specs.Names.{kind_table}
use Rattle.names.proofs.is_kind_name.Goals as goal

pub returns : goal.returns
unfolding kind_table
returns c = rw c.line_of.ensures at c.is_name.ensures
