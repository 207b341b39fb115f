-- The invariant: the first value out of its range is among those that are left. Assumes nothing.
use mathlib.Core.Path.{refl, sym, ◌∙◌}
use Prim.Native.Nat.{◌<◌}
use native.Mathlib.Omega.{arith}
use lib.ListN.{length}
use Rattle.codec.specs.Table.{fields}
use Rattle.codec.proofs.Rows.{fields-few}
use Rattle.by_row.proofs.FieldByField.{below, above, within, all-within, some_at, none_at}
use Rattle.by_row.proofs.first_bad.Goals as goal

-- it is below its lowest, or above its highest
pub returns-then-v-i : goal.returns-then-v-i
returns-then-v-i c =
    let there : c.loop-i.i < length (fields c.args.row) = omega (arith, c.requires.count) in
    some_at _ (below _ _ there _ (omega (arith, c.if-v-i.true, c.lowest.ensures)) ∙ c.loop-i.invariant)

pub returns-then-highest-v : goal.returns-then-highest-v
returns-then-highest-v c =
    let there : c.loop-i.i < length (fields c.args.row) = omega (arith, c.requires.count) in
    some_at _ (above _ _ there _ (omega (arith, c.if-highest-v.true, c.highest.ensures)) ∙ c.loop-i.invariant)

pub loop-i-preserved : goal.loop-i-preserved
loop-i-preserved c =
    let there : c.loop-i.i < length (fields c.args.row) = omega (arith, c.requires.count) in
    let low = c.lowest.ensures in
    let high = c.highest.ensures in
    within _ _ there _ (omega (arith, c.if-v-i.false, low)) (omega (arith, c.if-highest-v.false, high)) ∙ c.loop-i.invariant

-- none is out of its range
pub returns : goal.returns
returns c = none_at (sym (all-within (fields c.args.row) c.loop-i.i (omega (arith, c.requires.count)) _) ∙ c.loop-i.invariant)

pub loop-i-init : goal.loop-i-init
loop-i-init c = refl

-- no row has more than twelve fields
pub lowest-requires : goal.lowest-requires
lowest-requires c = (c.requires.most, omega (arith, c.requires.count, fields-few c.args.row))

pub highest-requires : goal.highest-requires
highest-requires c = (c.requires.most, omega (arith, c.requires.count, fields-few c.args.row))

pub overflow_cast-result : goal.overflow_cast-result
overflow_cast-result c = omega (arith, c.requires.count, fields-few c.args.row)

pub overflow_add-result : goal.overflow_add-result
overflow_add-result c = omega (arith, c.requires.count, fields-few c.args.row)

pub overflow_cast-result-then-highest-v : goal.overflow_cast-result-then-highest-v
overflow_cast-result-then-highest-v c = omega (arith, c.requires.count, fields-few c.args.row)

pub overflow_add-result-then-highest-v : goal.overflow_add-result-then-highest-v
overflow_add-result-then-highest-v c = omega (arith, c.requires.count, fields-few c.args.row)
