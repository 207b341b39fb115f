-- Theorem: the bars of both tables of a closed book's page are a cascade, whose scale goes from the least of all its steps to the greatest.
-- Assumes nothing.
use Prim.Native.Nat.{ℕ, ◌+◌, ◌^◌, ◌%◌}
use mathlib.Core.Path.{◌≡◌, refl, ap, ◌∙◌}
use mathlib.Core.List.{List, map, append-nil}
use mathlib.Core.Bool.{true}
use native.Mathlib.Omega.{arith}
use borrow.Author.Tests.{eqb-true}
use Rattle.base.proofs.Tests.{by-test}
use Rattle.page.specs.declared.Sum.{Sum}
use Rattle.page.specs.Bars.{plus8, no_step}
use Rattle.page.specs.Figures.{last_of, group_step, sum_of, source_of, sources_of, survey_of, of_farm, group_scale, source_scale}
use Rattle.page_sums.specs.Tables.{groups_of, group_bar, group_bars, farm_bar, source_bar, source_bars}
use Rattle.page_sums.specs.InScale.{InScale, BarsDrawn}
use Rattle.page_sums.proofs.Plain.{all_most, step-plain}
use Rattle.page_sums.proofs.GroupWalk.{last-range, groups-make}
use Rattle.page_sums.proofs.SourceWalk.{sources-make}
use Rattle.page_sums.proofs.SourceBars.{bars_from, end_from, co2e_by, six_co2e, six-grow, six-up, six-far, till-word, till-near}
use Rattle.page_sums.proofs.Scales.{scaled-alone, scaled-last, last_step}
use Rattle.page_sums.proofs.AddsUp.{none-of-farm}

module _ (xs : List ℕ) where
  groups-drawn : (last_of xs).stage ≡ 2 → InScale (group_scale (survey_of xs)) (group_bars xs)
  unfolding survey_of
  groups-drawn e =
      let a = last_of xs in
      let range = last-range xs in
      let c = (sources-make xs).carbons in
      let few = range.started.counted.records-most in
      let grows = (groups-make xs e).bars in
      let step = step-plain a range in
      let most = all_most a range in
      by-test (of_farm (survey_of xs))
      (λ t. rw t
      (scaled-last (map group_bar (groups_of xs)) (group_step a) grows (farm_bar (survey_of xs)) refl
      (last_step (group_step a) a.sums.co2.0 (omega (arith, step)) (omega (arith, step, most)) c.all
      (omega (arith, range.sums.co2, few)))))
      (λ t.
      let none : (group_step a + 0) % 2 ^ 64 ≡ group_step a = omega (arith, step, most) in
      let end : plus8 (group_step a) a.sums.co2.0 ≡ group_step a = ap (plus8 (group_step a)) (none-of-farm xs t) ∙ none in
      rw (t, end, append-nil (map group_bar (groups_of xs))) (scaled-alone (map group_bar (groups_of xs)) (group_step a) grows))

  sources-drawn : InScale (source_scale (survey_of xs)) (source_bars xs)
  unfolding survey_of sources_of source_of
  sources-drawn =
      let s : ℕ → Sum = λ (k : ℕ). sum_of k xs in
      let a = last_of xs in
      let m = sources-make xs in
      scaled-last (bars_from no_step (six_co2e s a m)) (end_from no_step (six_co2e s a m)) (six-grow s a m)
      (source_bar (survey_of xs).sources.tillage) refl
      (last_step (end_from no_step (six_co2e s a m)) (co2e_by s a m 9) (six-up s a m) (six-far s a m) (till-word s a m) (till-near s a m))

-- The bars of a closed book's page stand in their scales.
pub page-bars-in-scale : (xs : List ℕ) → (survey_of xs).closed ≡ true → BarsDrawn xs
unfolding survey_of
page-bars-in-scale xs closed = record { groups = groups-drawn xs (eqb-true _ _ closed); sources = sources-drawn xs }
