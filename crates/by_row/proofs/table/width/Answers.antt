-- A number of the field. Assumes nothing.
use mathlib.Core.Path.{ap}
use Rattle.codec.specs.declared.Field.{Field}
use Rattle.by_row.proofs.table.width.Goals as goal

pub field_at-requires : goal.field_at-requires
field_at-requires c = c.requires.0

pub returns : goal.returns
returns c = ap (λ (f : Field). f.0) c.field_at.ensures
