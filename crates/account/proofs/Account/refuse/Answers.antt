-- Assumes nothing.
use mathlib.Core.Path.{refl}
use Rattle.account.proofs.Account.refuse.Goals as goal

pub returns : goal.returns
returns c = rw c.by_fields-next.ensures refl
