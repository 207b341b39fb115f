-- `values::close::first_bad` meets its contract: what each test has found out.
-- Assumes nothing.
use lib.Dec.{lit<, lit≤}
use Rattle.codec.specs.Table.{table, fields}
use Rattle.codec.proofs.Within.{too-high, none-bad}
use native.Mathlib.Omega.{arith}
use Rattle.values.proofs.close.first_bad.Goals as goal

pub returns-then-v-gt65535 : goal.returns-then-v-gt65535
unfolding table
returns-then-v-gt65535 c = too-high 0 (fields 8) _ 0 (omega arith) (lit< tt) (omega arith)

pub returns : goal.returns
unfolding table
returns c = none-bad 1 (fields 8) _ 0 (omega arith) (lit≤ tt)
