-- `values::cattle::first_bad` meets its contract: what each test has found out.
-- Assumes nothing.
use mathlib.Core.Path.{sym, ◌∙◌}
use borrow.Author.Tests.{eqb-true}
use lib.Dec.{lit<, lit≤}
use Rattle.codec.specs.Table.{table, fields}
use Rattle.codec.proofs.Within.{too-low, too-high, none-bad}
use native.Mathlib.Omega.{arith}
use Rattle.values.proofs.cattle.first_bad.Goals as goal

pub returns-then-in_ranges : goal.returns-then-in_ranges
unfolding table
returns-then-in_ranges c = sym (eqb-true _ 0 (sym c.in_ranges.ensures ∙ c.if-in_ranges.true))

pub returns-then-v-lt1 : goal.returns-then-v-lt1
unfolding table
returns-then-v-lt1 c = too-low 0 (fields 4) _ 0 (omega arith) (lit< tt) (omega arith)

pub returns-then-v-gt366 : goal.returns-then-v-gt366
unfolding table
returns-then-v-gt366 c = too-high 0 (fields 4) _ 0 (omega arith) (lit< tt) (omega arith)

pub returns-then-v-gt5000 : goal.returns-then-v-gt5000
unfolding table
returns-then-v-gt5000 c = too-high 1 (fields 4) _ 0 (omega arith) (lit< tt) (omega arith)

pub returns-then-v-gt4000 : goal.returns-then-v-gt4000
unfolding table
returns-then-v-gt4000 c = too-high 2 (fields 4) _ 0 (omega arith) (lit< tt) (omega arith)

pub returns-then-v-gt8000 : goal.returns-then-v-gt8000
unfolding table
returns-then-v-gt8000 c = too-high 3 (fields 4) _ 0 (omega arith) (lit< tt) (omega arith)

pub returns-then-v-gt800 : goal.returns-then-v-gt800
unfolding table
returns-then-v-gt800 c = too-high 4 (fields 4) _ 0 (omega arith) (lit< tt) (omega arith)

pub returns-then-v-gt3000 : goal.returns-then-v-gt3000
unfolding table
returns-then-v-gt3000 c = too-high 5 (fields 4) _ 0 (omega arith) (lit< tt) (omega arith)

pub returns-then-v-gt10000 : goal.returns-then-v-gt10000
unfolding table
returns-then-v-gt10000 c = too-high 6 (fields 4) _ 0 (omega arith) (lit< tt) (omega arith)

pub returns-then-v-gt10000-2 : goal.returns-then-v-gt10000-2
unfolding table
returns-then-v-gt10000-2 c = too-high 7 (fields 4) _ 0 (omega arith) (lit< tt) (omega arith)

pub returns-then-v-gt10000-3 : goal.returns-then-v-gt10000-3
unfolding table
returns-then-v-gt10000-3 c = too-high 8 (fields 4) _ 0 (omega arith) (lit< tt) (omega arith)

pub returns : goal.returns
unfolding table
returns c = none-bad 9 (fields 4) _ 0 (omega arith) (lit≤ tt)
