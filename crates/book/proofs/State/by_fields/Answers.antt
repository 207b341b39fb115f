use mathlib.Core.Path.{refl}
use Rattle.book.proofs.State.by_fields.Goals as goal

pub returns : goal.returns
returns c = rw c.by_fields-account.ensures refl
