-- One text. Assumes nothing.
use Rattle.page.specs.Style.{table_style}
use Rattle.page.proofs.style.say_tables.Goals as goal

pub returns : goal.returns
unfolding table_style
returns c = c.say.ensures
