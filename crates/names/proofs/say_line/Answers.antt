use Rattle.names.specs.Names.{sentence_table}
use Rattle.names.proofs.say_line.Goals as goal

pub returns : goal.returns
unfolding sentence_table
returns c = rw c.line_of-words.ensures at c.say.ensures
