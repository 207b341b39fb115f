use mathlib.Core.Path.{refl}
use Rattle.names.specs.Names.{choice_table}
use Rattle.names.proofs.is_choice.Goals as goal

pub returns : goal.returns
unfolding choice_table
returns c = rw c.cell-words.ensures refl
