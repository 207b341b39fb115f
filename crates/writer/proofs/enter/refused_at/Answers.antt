-- Field by field. Assumes nothing.
use mathlib.Core.Path.{refl}
use Rattle.writer.proofs.enter.refused_at.Goals as goal

pub returns : goal.returns
returns c = rw (
  c.first_failed-t.ensures,
  c.one_refused-counted.ensures,
  c.lost_by-lost.ensures,
  c.cause_of.ensures,
) refl
