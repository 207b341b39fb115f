-- Each clause's function ensures the clause's test. Assumes nothing.
use mathlib.Core.Path.{refl}
use Rattle.account.specs.Range.{account_in_range}
use Rattle.account.proofs.range.test.Goals as goal

pub returns : goal.returns
unfolding account_in_range
returns c = rw (
  c.ended.ensures,
  c.under.ensures,
  c.bounded.ensures,
  c.started.ensures,
) refl
