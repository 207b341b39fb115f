use mathlib.Core.Path.{refl}
use Rattle.writer.specs.Remarks.{has_comma}
use Rattle.writer.proofs.lines.has_comma.Goals as goal

pub returns : goal.returns
unfolding has_comma
returns c = rw (
  c.is_whole-2.ensures,
  c.is_whole.ensures,
  c.part.ensures,
  c.after_comma-places.ensures,
) refl
