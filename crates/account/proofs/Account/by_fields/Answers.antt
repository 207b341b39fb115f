-- Assumes nothing.
use mathlib.Core.Path.{refl}
use Rattle.account.proofs.Account.by_fields.Goals as goal

pub returns : goal.returns
returns c = rw (c.same-grazing.ensures, c.same-co2.ensures, c.same-n2o.ensures, c.same-group_n2o.ensures) refl
