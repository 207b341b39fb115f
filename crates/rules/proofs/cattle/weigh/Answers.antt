-- Refused by 5, 6 or 7, or by 9, 10 or 11; else the days, the nitrogen and the N2O. Assumes nothing.
use mathlib.Core.Path.{refl, sym, ◌∙◌}
use native.Mathlib.Omega.{arith}
use borrow.Author.Tests.{lt-ltb, le-ltb, eq-eqb, ne_eqb}
use lib.Dec.{lit<}
use Rattle.account.specs.Figures.{figures_of}
use Rattle.account.specs.Sorts.{sort_of}
use Rattle.account.specs.Judge.{in_place_lem, first, accepted}
use Rattle.account.proofs.EachFigure.Cattle.{cattle-in, cattle-shares}
use Rattle.account.proofs.Told.{head-most, used-most, sums-most, subtotal-most, small-cattle, below-zero, not-below, manure-is, tells-detail}
use Rattle.account.proofs.Told.{told_in, Passes, passes, stops, refuses, accepts}
use Rattle.rules.proofs.Places.{cattle-place}
use Rattle.rules.proofs.cattle.weigh.Goals as goal

-- a value out of its range, so that one of the three refuses
pub returns-then-bad-ne0 : goal.returns-then-bad-ne0
unfolding in_place_lem sort_of
returns-then-bad-ne0 c = let place = cattle-place _ c.requires.0 _ c.cattle_placed-placed.ensures in
    let bad = c.first_bad-bad.ensures in
    let code = c.barred-code.ensures in
    stops _ 4 _ _ _ _ place bad code _ _
    (λ z. c.if-bad-ne0.true
    (bad ∙ (passes c.args.a 4 _ _ _ _ place bad code z).ranges))
    c.stopped.ensures

pub returns-then-code-ne0 : goal.returns-then-code-ne0
unfolding in_place_lem sort_of
returns-then-code-ne0 c = stops _ 4 _ _ _ _
    (cattle-place _ c.requires.0 _ c.cattle_placed-placed.ensures)
    (sym c.if-bad-ne0.false ∙ c.first_bad-bad.ensures)
    c.barred-code-2.ensures _ _ c.if-code-ne0.true c.stopped-then-code-ne0.ensures

pub overflow_add-sum : goal.overflow_add-sum
unfolding in_place_lem sort_of
overflow_add-sum c =
    let passed : Passes c.args.a 4
    c.args.v = passes _ 4 _ _ _ _ (cattle-place _ c.requires.0 _ c.cattle_placed-placed.ensures)
    (sym c.if-bad-ne0.false ∙ c.first_bad-bad.ensures) c.barred-code-2.ensures
    c.if-code-ne0.false in
    let d = used-most _ c.requires.0 in
    omega (arith, (cattle-in _ 0 (omega arith) (passed).ranges).days-in)

pub returns-then-sum-gt366 : goal.returns-then-sum-gt366
unfolding first in_place_lem sort_of
returns-then-sum-gt366 c =
    let passed : Passes c.args.a 4
    c.args.v = passes _ 4 _ _ _ _ (cattle-place _ c.requires.0 _ c.cattle_placed-placed.ensures)
    (sym c.if-bad-ne0.false ∙ c.first_bad-bad.ensures) c.barred-code-2.ensures
    c.if-code-ne0.false in
    refuses _ 4 _ (passed) _ 9 _ (rw (lt-ltb _ _ c.if-sum-gt366.true)) refl refl c.wrong.ensures

pub overflow_add-v : goal.overflow_add-v
unfolding in_place_lem sort_of
overflow_add-v c =
    let passed : Passes c.args.a 4
    c.args.v = passes _ 4 _ _ _ _ (cattle-place _ c.requires.0 _ c.cattle_placed-placed.ensures)
    (sym c.if-bad-ne0.false ∙ c.first_bad-bad.ensures) c.barred-code-2.ensures
    c.if-code-ne0.false in
    omega (arith, cattle-shares _ (passed).ranges)

pub overflow_add-v-2 : goal.overflow_add-v-2
unfolding in_place_lem sort_of
overflow_add-v-2 c =
    let passed : Passes c.args.a 4
    c.args.v = passes _ 4 _ _ _ _ (cattle-place _ c.requires.0 _ c.cattle_placed-placed.ensures)
    (sym c.if-bad-ne0.false ∙ c.first_bad-bad.ensures) c.barred-code-2.ensures
    c.if-code-ne0.false in
    omega (arith, cattle-shares _ (passed).ranges)

pub returns-then-v-ne10000 : goal.returns-then-v-ne10000
unfolding first in_place_lem sort_of
returns-then-v-ne10000 c =
    let passed : Passes c.args.a 4
    c.args.v = passes _ 4 _ _ _ _ (cattle-place _ c.requires.0 _ c.cattle_placed-placed.ensures)
    (sym c.if-bad-ne0.false ∙ c.first_bad-bad.ensures) c.barred-code-2.ensures
    c.if-code-ne0.false in
    refuses _ 4 _ (passed) _ 10 _
    (rw (le-ltb _ _ c.if-sum-gt366.false, ne_eqb _ 10000 c.if-v-ne10000.true)) refl refl c.wrong-then-v-ne10000.ensures

pub nitrogen-n-requires : goal.nitrogen-n-requires
unfolding in_place_lem sort_of
nitrogen-n-requires c =
    let passed : Passes c.args.a 4
    c.args.v = passes _ 4 _ _ _ _ (cattle-place _ c.requires.0 _ c.cattle_placed-placed.ensures)
    (sym c.if-bad-ne0.false ∙ c.first_bad-bad.ensures) c.barred-code-2.ensures
    c.if-code-ne0.false in
    rw c.cattle_ration.ensures (cattle-in _ _ (head-most _
    c.requires.0)
    (passed).ranges)

pub grouped_detail-requires : goal.grouped_detail-requires
unfolding in_place_lem sort_of
grouped_detail-requires c =
    let passed : Passes c.args.a 4
    c.args.v = passes _ 4 _ _ _ _ (cattle-place _ c.requires.0 _ c.cattle_placed-placed.ensures)
    (sym c.if-bad-ne0.false ∙ c.first_bad-bad.ensures) c.barred-code-2.ensures
    c.if-code-ne0.false in (
      (passed).room,
      sums-most _ c.requires.0,
      subtotal-most _ c.requires.0,
      small-cattle _ _ _ c.nitrogen-n.ensures _
          c.in-Some.is _ c.cattle_figures-f.ensures,
    )

pub returns-in-None : goal.returns-in-None
unfolding first in_place_lem sort_of
returns-in-None c =
    let passed : Passes c.args.a 4
    c.args.v = passes _ 4 _ _ _ _ (cattle-place _ c.requires.0 _ c.cattle_placed-placed.ensures)
    (sym c.if-bad-ne0.false ∙ c.first_bad-bad.ensures) c.barred-code-2.ensures
    c.if-code-ne0.false in
    let below = below-zero _ _ _ c.nitrogen-n.ensures c.in-None.is in
    refuses _ 4 _ (passed) _ 11 _
    (rw (
      le-ltb _ _ c.if-sum-gt366.false,
      eq-eqb _ 10000 c.if-v-ne10000.false,
      rw c.cattle_ration.ensures at below,
    ))
    refl refl c.wrong-in-None.ensures

pub returns-in-Some : goal.returns-in-Some
unfolding first accepted figures_of sort_of in_place_lem
returns-in-Some c =
    let passed : Passes c.args.a 4
    c.args.v = passes _ 4 _ _ _ _ (cattle-place _ c.requires.0 _ c.cattle_placed-placed.ensures)
    (sym c.if-bad-ne0.false ∙ c.first_bad-bad.ensures) c.barred-code-2.ensures
    c.if-code-ne0.false in
    let given = c.in-Some.is in
    let above = not-below _ _ _ c.nitrogen-n.ensures _ given in
    let manure = manure-is _ _ _ c.nitrogen-n.ensures _ given in
    told_in _ _ _ _ _ c.grouped_detail.ensures
    (rw (
      accepts _ 4 _ (passed)
          (rw (
            le-ltb _ _ c.if-sum-gt366.false,
            eq-eqb _ 10000 c.if-v-ne10000.false,
            rw c.cattle_ration.ensures at above,
          )),
      c.cattle_figures-f.ensures,
      rw c.cattle_ration.ensures at manure,
    )
    (tells-detail c.args.a _ _ _ _ _))

pub bounds-v-0 : goal.bounds-v-0
bounds-v-0 c = lit< tt

pub bounds-v-6 : goal.bounds-v-6
bounds-v-6 c = lit< tt

pub bounds-v-7 : goal.bounds-v-7
bounds-v-7 c = lit< tt

pub bounds-v-8 : goal.bounds-v-8
bounds-v-8 c = lit< tt

pub overflow_cast-grouped_detail : goal.overflow_cast-grouped_detail
overflow_cast-grouped_detail c = record { fits = lit< tt }
