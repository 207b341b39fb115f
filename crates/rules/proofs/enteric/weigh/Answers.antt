-- Refused by 5, 6 or 7, or by 9; else the days and the grams of CH4. Assumes nothing.
use mathlib.Core.Path.{refl}
use native.Mathlib.Omega.{arith}
use borrow.Author.Tests.{lt-ltb, le-ltb}
use lib.Dec.{lit<}
use Rattle.account.specs.Figures.{figures_of}
use Rattle.account.specs.Sorts.{sort_of}
use Rattle.account.specs.Judge.{in_place_lem, first, accepted}
use Rattle.account.proofs.EachFigure.Enteric.{enteric-in}
use Rattle.account.proofs.Told.{head-most, used-most, sums-most, subtotal-most, small-ch4, tells-detail, told_in, Passes, passes, stops, refuses}
use Rattle.account.proofs.Told.{accepts}
use Rattle.rules.proofs.Places.{cattle-place}
use Rattle.rules.proofs.enteric.weigh.Goals as goal

pub returns-then-code-ne0 : goal.returns-then-code-ne0
unfolding in_place_lem sort_of
returns-then-code-ne0 c = stops _ 3 _ _ _ _ (cattle-place _ c.requires.0 _ c.cattle_placed.ensures)
    c.first_bad-bad.ensures
    c.barred-code.ensures _ _ c.if-code-ne0.true c.stopped.ensures

pub overflow_add-sum : goal.overflow_add-sum
unfolding in_place_lem sort_of
overflow_add-sum c =
    let passed : Passes c.args.a 3 c.args.v = passes _ 3 _ _ _ _ (cattle-place _ c.requires.0 _ c.cattle_placed.ensures)
    c.first_bad-bad.ensures c.barred-code.ensures
    c.if-code-ne0.false in
    let d = used-most _ c.requires.0 in
    omega (arith, (enteric-in _ 0 (omega arith) (passed).ranges).days-in)

pub returns-then-sum-gt366 : goal.returns-then-sum-gt366
unfolding first in_place_lem sort_of
returns-then-sum-gt366 c =
    let passed : Passes c.args.a 3 c.args.v = passes _ 3 _ _ _ _ (cattle-place _ c.requires.0 _ c.cattle_placed.ensures)
    c.first_bad-bad.ensures c.barred-code.ensures
    c.if-code-ne0.false in
    refuses _ 3 _ (passed) _ 9 _ (rw (lt-ltb _ _ c.if-sum-gt366.true)) refl refl c.wrong.ensures

pub enteric-ch4-requires : goal.enteric-ch4-requires
unfolding in_place_lem sort_of
enteric-ch4-requires c =
    let passed : Passes c.args.a 3 c.args.v = passes _ 3 _ _ _ _ (cattle-place _ c.requires.0 _ c.cattle_placed.ensures)
    c.first_bad-bad.ensures c.barred-code.ensures
    c.if-code-ne0.false in
    enteric-in _ _ (head-most _ c.requires.0)
    (passed).ranges

pub grouped_detail-requires : goal.grouped_detail-requires
unfolding in_place_lem sort_of
grouped_detail-requires c =
    let passed : Passes c.args.a 3 c.args.v = passes _ 3 _ _ _ _ (cattle-place _ c.requires.0 _ c.cattle_placed.ensures)
    c.first_bad-bad.ensures c.barred-code.ensures
    c.if-code-ne0.false in (
      (passed).room,
      sums-most _ c.requires.0,
      subtotal-most _ c.requires.0,
      small-ch4 _ _ c.ch4_alone-f.ensures c.enteric-ch4.ensures.small,
    )

pub returns : goal.returns
unfolding first accepted figures_of sort_of in_place_lem
returns c =
    let passed : Passes c.args.a 3 c.args.v = passes _ 3 _ _ _ _ (cattle-place _ c.requires.0 _ c.cattle_placed.ensures)
    c.first_bad-bad.ensures c.barred-code.ensures
    c.if-code-ne0.false in
    told_in _ _ _ _ _ c.grouped_detail.ensures
    (rw (
      accepts _ 3 _ (passed)
          (rw (le-ltb _ _ c.if-sum-gt366.false)),
      c.ch4_alone-f.ensures,
      c.enteric-ch4.ensures.exact,
    )
    (tells-detail c.args.a _ _ _ _ _))

pub bounds-v-0 : goal.bounds-v-0
bounds-v-0 c = lit< tt

pub bounds-v-1 : goal.bounds-v-1
bounds-v-1 c = lit< tt

pub bounds-v-2 : goal.bounds-v-2
bounds-v-2 c = lit< tt

pub bounds-v-0-2 : goal.bounds-v-0-2
bounds-v-0-2 c = lit< tt

pub overflow_cast-grouped_detail : goal.overflow_cast-grouped_detail
overflow_cast-grouped_detail c = record { fits = lit< tt }
