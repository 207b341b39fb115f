-- Assumes nothing.
use mathlib.Core.Path.{refl}
use Rattle.account.proofs.Account.new.Goals as goal

pub returns : goal.returns
returns c = refl
