-- `image::read::numbers_in` meets its contract: three runs.
-- Assumes nothing.
use mathlib.Core.Path.{refl}
use native.Mathlib.Omega.{arith}
use borrow.Author.Rules.{rules}
use Rattle.codec.specs.Table.{size}
use Rattle.codec.specs.Codec.{values_at}
use Rattle.account.specs.Account.{account_fields}
use Rattle.image.proofs.read.numbers_in.Goals as goal

pub read_run-second-requires : goal.read_run-second-requires
unfolding size account_fields
read_run-second-requires c = (c.requires, refl, omega arith, omega arith, omega arith)

pub read_run-third-requires : goal.read_run-third-requires
unfolding account_fields
read_run-third-requires c = (c.requires, c.read_run-second.ensures.next, omega arith, omega arith, search rules)

pub read_run-requires : goal.read_run-requires
unfolding account_fields
read_run-requires c = (c.requires, c.read_run-third.ensures.next, omega arith, omega arith, search rules)

pub returns : goal.returns
unfolding size account_fields values_at
returns c = rw (c.read_run.ensures.numbers, c.read_run-third.ensures.numbers, c.read_run-second.ensures.numbers) refl
