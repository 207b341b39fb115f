use mathlib.Core.Path.{refl}
use Rattle.book.proofs.turns.idle.Goals as goal

pub returns : goal.returns
returns c = rw c.by_fields-same.ensures refl
