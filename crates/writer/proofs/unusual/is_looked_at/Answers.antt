use mathlib.Core.Path.{refl}
use Rattle.writer.proofs.unusual.is_looked_at.Goals as goal

pub returns : goal.returns
returns c = refl
