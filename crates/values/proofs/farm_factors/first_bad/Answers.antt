-- `values::farm_factors::first_bad` meets its contract: what each test has found out.
-- Assumes nothing.
use lib.Dec.{lit<, lit≤}
use Rattle.codec.specs.Table.{table, fields, last_row}
use Rattle.codec.proofs.Within.{too-low, too-high, none-bad}
use native.Mathlib.Omega.{arith}
use Rattle.values.proofs.farm_factors.first_bad.Goals as goal

pub returns-then-v-gt4294967295 : goal.returns-then-v-gt4294967295
unfolding table
returns-then-v-gt4294967295 c = too-high 0 (fields last_row) _ 0 (omega arith) (lit< tt) (omega arith)

pub returns-then-v-lt1900 : goal.returns-then-v-lt1900
unfolding table
returns-then-v-lt1900 c = too-low 1 (fields last_row) _ 0 (omega arith) (lit< tt) (omega arith)

pub returns-then-v-gt2200 : goal.returns-then-v-gt2200
unfolding table
returns-then-v-gt2200 c = too-high 1 (fields last_row) _ 0 (omega arith) (lit< tt) (omega arith)

pub returns-then-v-lt1 : goal.returns-then-v-lt1
unfolding table
returns-then-v-lt1 c = too-low 2 (fields last_row) _ 0 (omega arith) (lit< tt) (omega arith)

pub returns-then-v-gt1000 : goal.returns-then-v-gt1000
unfolding table
returns-then-v-gt1000 c = too-high 2 (fields last_row) _ 0 (omega arith) (lit< tt) (omega arith)

pub returns-then-v-lt1-2 : goal.returns-then-v-lt1-2
unfolding table
returns-then-v-lt1-2 c = too-low 3 (fields last_row) _ 0 (omega arith) (lit< tt) (omega arith)

pub returns-then-v-gt1000-2 : goal.returns-then-v-gt1000-2
unfolding table
returns-then-v-gt1000-2 c = too-high 3 (fields last_row) _ 0 (omega arith) (lit< tt) (omega arith)

pub returns : goal.returns
unfolding table
returns c = none-bad 4 (fields last_row) _ 0 (omega arith) (lit≤ tt)
