-- `values::farm::first_bad` meets its contract: what each test has found out.
-- Assumes nothing.
use lib.Dec.{lit<, lit≤}
use Rattle.codec.specs.Table.{table, fields}
use Rattle.codec.proofs.Within.{too-low, too-high, none-bad}
use native.Mathlib.Omega.{arith}
use Rattle.values.proofs.farm.first_bad.Goals as goal

pub returns-then-v-gt4294967295 : goal.returns-then-v-gt4294967295
unfolding table
returns-then-v-gt4294967295 c = too-high 0 (fields 1) _ 0 (omega arith) (lit< tt) (omega arith)

pub returns-then-v-lt1900 : goal.returns-then-v-lt1900
unfolding table
returns-then-v-lt1900 c = too-low 1 (fields 1) _ 0 (omega arith) (lit< tt) (omega arith)

pub returns-then-v-gt2200 : goal.returns-then-v-gt2200
unfolding table
returns-then-v-gt2200 c = too-high 1 (fields 1) _ 0 (omega arith) (lit< tt) (omega arith)

pub returns-then-v-lt1 : goal.returns-then-v-lt1
unfolding table
returns-then-v-lt1 c = too-low 2 (fields 1) _ 0 (omega arith) (lit< tt) (omega arith)

pub returns-then-v-gt2 : goal.returns-then-v-gt2
unfolding table
returns-then-v-gt2 c = too-high 2 (fields 1) _ 0 (omega arith) (lit< tt) (omega arith)

pub returns : goal.returns
unfolding table
returns c = none-bad 3 (fields 1) _ 0 (omega arith) (lit≤ tt)
