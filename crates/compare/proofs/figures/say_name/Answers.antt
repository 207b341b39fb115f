-- Assumes nothing.
use borrow.Author.Rules.{rules}
use Rattle.line_rows.specs.Rows.{figure_names}
use Rattle.compare.proofs.figures.say_name.Goals as goal

pub part-name-requires : goal.part-name-requires
unfolding figure_names
part-name-requires c = search rules

pub returns : goal.returns
unfolding figure_names
returns c = rw c.part-name.ensures at c.say.ensures
