-- The line of the kind. Assumes nothing.
use Rattle.page.specs.Parts.{source_table}
use Rattle.page.proofs.by_source.say_source_name.Goals as goal

pub returns : goal.returns
unfolding source_table
returns c = rw c.part-name.ensures at c.say.ensures
