use mathlib.Core.Path.{refl}
use Rattle.writer.specs.Unusual.{is_unusual}
use Rattle.writer.proofs.unusual.is_unusual.Goals as goal

pub returns : goal.returns
unfolding is_unusual
returns c = rw (c.outside.ensures, c.is_looked_at.ensures, c.usual_range.ensures) refl
