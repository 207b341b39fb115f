use mathlib.Core.Path.{refl}
use Rattle.book.proofs.State.new.Goals as goal

pub returns : goal.returns
returns c = rw c.new-account.ensures refl
