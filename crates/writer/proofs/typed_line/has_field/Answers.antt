-- By the count of the row's fields. Assumes nothing.
use Rattle.writer.proofs.typed_line.has_field.Goals as goal

pub returns : goal.returns
returns c = rw c.values_of.ensures
