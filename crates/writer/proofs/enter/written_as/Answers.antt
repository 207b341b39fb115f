-- Field by field. Assumes nothing.
use mathlib.Core.Path.{refl}
use Rattle.writer.proofs.enter.written_as.Goals as goal

pub returns : goal.returns
returns c = rw (
  c.year_after-t.ensures,
  c.one_written-counted.ensures,
  c.unusual_after.ensures,
  c.lost_after-lost.ensures,
) refl
