-- Refused by 5, 6 or 7, or by 9 or 10; else the days and the four figures. Assumes nothing.
use mathlib.Core.Path.{refl}
use native.Mathlib.Omega.{arith}
use borrow.Author.Tests.{lt-ltb, le-ltb}
use lib.Dec.{lit<}
use Rattle.account.specs.Figures.{figures_of}
use Rattle.account.specs.Sorts.{sort_of}
use Rattle.account.specs.Judge.{in_place_lem, first, accepted}
use Rattle.account.proofs.EachFigure.Pig.{pig-days, pig-in, pig-parts}
use Rattle.account.proofs.Told.{head-most, used-most, sums-most, subtotal-most, small-pig, tells-detail, told_in, Passes, passes, stops, refuses}
use Rattle.account.proofs.Told.{accepts}
use Rattle.rules.proofs.Places.{pig-place}
use Rattle.rules.proofs.pig.weigh.Goals as goal

pub returns-then-code-ne0 : goal.returns-then-code-ne0
unfolding in_place_lem sort_of
returns-then-code-ne0 c = stops _ 5 _ _ _ _ (pig-place _ c.requires.0 _ c.pig_placed.ensures)
    c.first_bad-bad.ensures
    c.barred-code.ensures _ _ c.if-code-ne0.true c.stopped.ensures

pub overflow_add-sum : goal.overflow_add-sum
unfolding in_place_lem sort_of
overflow_add-sum c =
    let passed : Passes c.args.a 5 c.args.v = passes _ 5 _ _ _ _ (pig-place _ c.requires.0 _ c.pig_placed.ensures)
    c.first_bad-bad.ensures c.barred-code.ensures
    c.if-code-ne0.false in
    let d = used-most _ c.requires.0 in
    omega (arith, pig-days _ (passed).ranges)

pub returns-then-sum-gt366 : goal.returns-then-sum-gt366
unfolding first in_place_lem sort_of
returns-then-sum-gt366 c =
    let passed : Passes c.args.a 5 c.args.v = passes _ 5 _ _ _ _ (pig-place _ c.requires.0 _ c.pig_placed.ensures)
    c.first_bad-bad.ensures c.barred-code.ensures
    c.if-code-ne0.false in
    refuses _ 5 _ (passed) _ 9 _ (rw (lt-ltb _ _ c.if-sum-gt366.true)) refl refl c.wrong.ensures

pub overflow_add-v : goal.overflow_add-v
unfolding in_place_lem sort_of
overflow_add-v c =
    let passed : Passes c.args.a 5 c.args.v = passes _ 5 _ _ _ _ (pig-place _ c.requires.0 _ c.pig_placed.ensures)
    c.first_bad-bad.ensures c.barred-code.ensures
    c.if-code-ne0.false in
    omega (arith, pig-parts _ (passed).ranges)

pub returns-then-v-gt1000 : goal.returns-then-v-gt1000
unfolding first in_place_lem sort_of
returns-then-v-gt1000 c =
    let passed : Passes c.args.a 5 c.args.v = passes _ 5 _ _ _ _ (pig-place _ c.requires.0 _ c.pig_placed.ensures)
    c.first_bad-bad.ensures c.barred-code.ensures
    c.if-code-ne0.false in
    refuses _ 5 _ (passed) _ 10 _
    (rw (le-ltb _ _ c.if-sum-gt366.false, lt-ltb _ _ c.if-v-gt1000.true)) refl refl c.wrong-then-v-gt1000.ensures

pub manure-m-requires : goal.manure-m-requires
unfolding in_place_lem sort_of
manure-m-requires c =
    let passed : Passes c.args.a 5 c.args.v = passes _ 5 _ _ _ _ (pig-place _ c.requires.0 _ c.pig_placed.ensures)
    c.first_bad-bad.ensures c.barred-code.ensures
    c.if-code-ne0.false in
    rw c.pig_ration.ensures (pig-in _ _ (head-most _ c.requires.0) (passed).ranges c.if-v-gt1000.false)

pub grouped_detail-requires : goal.grouped_detail-requires
unfolding in_place_lem sort_of
grouped_detail-requires c =
    let passed : Passes c.args.a 5 c.args.v = passes _ 5 _ _ _ _ (pig-place _ c.requires.0 _ c.pig_placed.ensures)
    c.first_bad-bad.ensures c.barred-code.ensures
    c.if-code-ne0.false in (
      (passed).room,
      sums-most _ c.requires.0,
      subtotal-most _ c.requires.0,
      small-pig _ _ _ _ c.pig_figures-f.ensures c.manure-m.ensures,
    )

pub returns : goal.returns
unfolding first accepted figures_of sort_of in_place_lem
returns c =
    let passed : Passes c.args.a 5 c.args.v = passes _ 5 _ _ _ _ (pig-place _ c.requires.0 _ c.pig_placed.ensures)
    c.first_bad-bad.ensures c.barred-code.ensures
    c.if-code-ne0.false in
    told_in _ _ _ _ _ c.grouped_detail.ensures
    (rw (
      accepts _ 5 _ (passed)
          (rw (
            le-ltb _ _ c.if-sum-gt366.false,
            le-ltb _ _ c.if-v-gt1000.false,
          )),
      c.pig_figures-f.ensures,
      c.manure-m.ensures.exact,
      c.pig_ration.ensures,
    )
    (tells-detail c.args.a _ _ _ _ _))

pub bounds-v-0 : goal.bounds-v-0
bounds-v-0 c = lit< tt

pub bounds-v-8 : goal.bounds-v-8
bounds-v-8 c = lit< tt

pub bounds-v-10 : goal.bounds-v-10
bounds-v-10 c = lit< tt

pub overflow_cast-grouped_detail : goal.overflow_cast-grouped_detail
overflow_cast-grouped_detail c = record { fits = lit< tt }
