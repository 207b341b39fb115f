-- Refused by 5, 6 or 7; else the book is open. Assumes nothing.
use mathlib.Core.Path.{refl}
use native.Mathlib.Omega.{arith}
use Rattle.codec.specs.Table.{last_row}
use Rattle.account.specs.Sorts.{sort_of}
use Rattle.account.specs.Judge.{in_place_lem, first, accepted}
use Rattle.account.proofs.FarmSet.{factors-in}
use Rattle.account.proofs.Told.{tells-quiet, quiet-in, Passes, passes, stops, accepts}
use Rattle.rules.proofs.farm.weigh_factors.Goals as goal

pub returns-then-code-ne0 : goal.returns-then-code-ne0
unfolding in_place_lem
returns-then-code-ne0 c = stops _ last_row _ _ _ _ refl c.first_bad-bad.ensures c.barred-code.ensures
    _ _ c.if-code-ne0.true c.stopped.ensures

pub returns : goal.returns
unfolding first accepted sort_of in_place_lem
returns c =
    let passed : Passes c.args.a last_row c.args.v = passes _ last_row _ _ _ _ refl c.first_bad-bad.ensures c.barred-code.ensures c.if-code-ne0.false in
    quiet-in _ _ _ _ _ c.silent.ensures
    (rw (
      accepts _ last_row _ (passed) refl,
      c.silent.ensures,
      c.by_fields-next.ensures,
    ) (tells-quiet _))

pub overflow_cast-ch4 : goal.overflow_cast-ch4
unfolding in_place_lem
overflow_cast-ch4 c =
    let passed : Passes c.args.a last_row c.args.v = passes _ last_row _ _ _ _ refl c.first_bad-bad.ensures c.barred-code.ensures c.if-code-ne0.false in
    omega (arith, (factors-in _ (passed).ranges).ch4-most)

pub overflow_cast-n2o : goal.overflow_cast-n2o
unfolding in_place_lem
overflow_cast-n2o c =
    let passed : Passes c.args.a last_row c.args.v = passes _ last_row _ _ _ _ refl c.first_bad-bad.ensures c.barred-code.ensures c.if-code-ne0.false in
    omega (arith, (factors-in _ (passed).ranges).n2o-most)

pub overflow_add-next : goal.overflow_add-next
unfolding in_place_lem
overflow_add-next c =
    let passed : Passes c.args.a last_row c.args.v = passes _ last_row _ _ _ _ refl c.first_bad-bad.ensures c.barred-code.ensures c.if-code-ne0.false in
    omega (arith, (passed).room)
