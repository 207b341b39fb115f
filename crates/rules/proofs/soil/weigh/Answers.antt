-- Refused by 5, 6 or 7; else the grams of CO2, which belong to the farm. Assumes nothing.
use mathlib.Core.Path.{refl}
use lib.Dec.{lit<}
use Rattle.account.specs.Figures.{figures_of}
use Rattle.account.specs.Sorts.{sort_of}
use Rattle.account.specs.Judge.{in_place_lem, first, accepted}
use Rattle.account.proofs.EachFigure.Soil.{soil-in}
use Rattle.account.proofs.Told.{sums-most, small-co2, tells-detail, told_in, Passes, passes, stops, accepts}
use Rattle.rules.proofs.soil.weigh.Goals as goal

pub returns-then-code-ne0 : goal.returns-then-code-ne0
unfolding in_place_lem sort_of
returns-then-code-ne0 c = stops _ 7 _ _ _ _ c.begun.ensures c.first_bad-bad.ensures
    c.barred-code.ensures _ _ c.if-code-ne0.true c.stopped.ensures

pub detailed-requires : goal.detailed-requires
unfolding in_place_lem sort_of
detailed-requires c =
    let passed : Passes c.args.a 7 c.args.v = passes _ 7 _ _ _ _ c.begun.ensures c.first_bad-bad.ensures c.barred-code.ensures c.if-code-ne0.false in (
      (passed).room,
      sums-most _ c.requires.0,
      small-co2 _ _ c.co2_alone-f.ensures c.soil-co2.ensures.small,
    )

pub returns : goal.returns
unfolding first accepted figures_of sort_of in_place_lem
returns c =
    let passed : Passes c.args.a 7 c.args.v = passes _ 7 _ _ _ _ c.begun.ensures c.first_bad-bad.ensures c.barred-code.ensures c.if-code-ne0.false in
    told_in _ _ _ _ _ c.detailed.ensures
    (rw (
      accepts _ 7 _ (passed) refl,
      c.co2_alone-f.ensures,
      c.soil-co2.ensures.exact,
    )
    (tells-detail c.args.a _ _ _ _ _))

pub bounds-v-0 : goal.bounds-v-0
bounds-v-0 c = lit< tt

pub soil-co2-requires : goal.soil-co2-requires
unfolding in_place_lem sort_of
soil-co2-requires c =
    let passed : Passes c.args.a 7 c.args.v = passes _ 7 _ _ _ _ c.begun.ensures c.first_bad-bad.ensures c.barred-code.ensures c.if-code-ne0.false in
    soil-in _ (passed).ranges

pub overflow_cast-detailed : goal.overflow_cast-detailed
overflow_cast-detailed c = record { fits = lit< tt }
