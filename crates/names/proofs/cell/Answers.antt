use mathlib.Core.Path.{refl, ◌∙◌}
use Rattle.names.proofs.cell.Goals as goal

pub returns : goal.returns
returns c = c.part.ensures ∙ rw c.line_of.ensures refl
