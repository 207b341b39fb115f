-- Refused by 5, 6 or 7, or by 10; else the fraction and the grams of CO2e. Assumes nothing.
use mathlib.Core.Path.{refl}
use native.Mathlib.Omega.{arith}
use borrow.Author.Tests.{lt-ltb, le-ltb}
use lib.Dec.{lit<}
use Rattle.account.specs.Figures.{figures_of}
use Rattle.account.specs.Sorts.{sort_of}
use Rattle.account.specs.Judge.{in_place_lem, first, accepted}
use Rattle.account.proofs.EachFigure.Grazing.{grazing-in, grazing-fraction}
use Rattle.account.proofs.Told.{head-most, used-most, sums-most, subtotal-most, small-grazing, tells-detail, told_in, Passes, passes, stops, refuses}
use Rattle.account.proofs.Told.{accepts}
use Rattle.rules.proofs.Places.{cattle-place}
use Rattle.rules.proofs.grazing.weigh.Goals as goal

pub returns-then-code-ne0 : goal.returns-then-code-ne0
unfolding in_place_lem sort_of
returns-then-code-ne0 c = stops _ 10 _ _ _ _ (cattle-place _ c.requires.0 _ c.cattle_placed.ensures)
    c.first_bad-bad.ensures
    c.barred-code.ensures _ _ c.if-code-ne0.true c.stopped.ensures

pub overflow_add-sum : goal.overflow_add-sum
unfolding in_place_lem sort_of
overflow_add-sum c =
    let passed : Passes c.args.a 10 c.args.v = passes _ 10 _ _ _ _ (cattle-place _ c.requires.0 _ c.cattle_placed.ensures)
    c.first_bad-bad.ensures c.barred-code.ensures
    c.if-code-ne0.false in
    let g = (used-most _ c.requires.0).grazed in
    omega (arith, g, grazing-fraction _ (passed).ranges)

pub returns-then-sum-gt10000 : goal.returns-then-sum-gt10000
unfolding first in_place_lem sort_of
returns-then-sum-gt10000 c =
    let passed : Passes c.args.a 10 c.args.v = passes _ 10 _ _ _ _ (cattle-place _ c.requires.0 _ c.cattle_placed.ensures)
    c.first_bad-bad.ensures c.barred-code.ensures
    c.if-code-ne0.false in
    refuses _ 10 _ (passed) _ 10 _ (rw (lt-ltb _ _ c.if-sum-gt10000.true)) refl refl c.wrong.ensures

pub grazing-co2e-requires : goal.grazing-co2e-requires
unfolding in_place_lem sort_of
grazing-co2e-requires c =
    let passed : Passes c.args.a 10 c.args.v = passes _ 10 _ _ _ _ (cattle-place _ c.requires.0 _ c.cattle_placed.ensures)
    c.first_bad-bad.ensures c.barred-code.ensures
    c.if-code-ne0.false in
    grazing-in _ _ (head-most _ c.requires.0)
    (passed).ranges

pub grouped_detail-requires : goal.grouped_detail-requires
unfolding in_place_lem sort_of
grouped_detail-requires c =
    let passed : Passes c.args.a 10 c.args.v = passes _ 10 _ _ _ _ (cattle-place _ c.requires.0 _ c.cattle_placed.ensures)
    c.first_bad-bad.ensures c.barred-code.ensures
    c.if-code-ne0.false in (
      (passed).room,
      sums-most _ c.requires.0,
      subtotal-most _ c.requires.0,
      small-grazing _ _ c.grazing_alone-f.ensures c.grazing-co2e.ensures.small,
    )

pub returns : goal.returns
unfolding first accepted figures_of sort_of in_place_lem
returns c =
    let passed : Passes c.args.a 10 c.args.v = passes _ 10 _ _ _ _ (cattle-place _ c.requires.0 _ c.cattle_placed.ensures)
    c.first_bad-bad.ensures c.barred-code.ensures
    c.if-code-ne0.false in
    told_in _ _ _ _ _ c.grouped_detail.ensures
    (rw (
      accepts _ 10 _ (passed)
          (rw (le-ltb _ _ c.if-sum-gt10000.false)),
      c.grazing_alone-f.ensures,
      c.grazing-co2e.ensures.exact,
    )
    (tells-detail c.args.a _ _ _ _ _))

pub bounds-v-3 : goal.bounds-v-3
bounds-v-3 c = lit< tt

pub bounds-v-0 : goal.bounds-v-0
bounds-v-0 c = lit< tt

pub bounds-v-1 : goal.bounds-v-1
bounds-v-1 c = lit< tt

pub bounds-v-2 : goal.bounds-v-2
bounds-v-2 c = lit< tt

pub bounds-v-3-2 : goal.bounds-v-3-2
bounds-v-3-2 c = lit< tt

pub overflow_cast-grouped_detail : goal.overflow_cast-grouped_detail
overflow_cast-grouped_detail c = record { fits = lit< tt }
