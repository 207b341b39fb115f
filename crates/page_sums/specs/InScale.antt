-- What is promised of the bars of a closed book's page: they are a cascade, and its scale goes from the least of all its steps to the greatest.
-- Assumes nothing.
use Rattle.std.specs.Prelude.{ℕ, ◌-◌, ◌≤◌, ◌≡◌, List, [], ◌∷◌, map, pos, ◌+ℤ◌}
use Rattle.base.specs.Signed.{signed_of}
use Rattle.page.specs.declared.Scale.{Scale}
use Rattle.page.specs.Bars.{lesser, greater, no_step, unit_of, place_of}
use Rattle.page.specs.Figures.{survey_of, group_scale, source_scale}
use Rattle.page_sums.specs.Tables.{Bar, group_bars, source_bars}

-- each bar begins at the step where the last one ended, the first at the one given, and goes on by its row's CO2e, as whole numbers
abbrev pub Cascade : ℕ → List Bar → Type 0
Cascade step [] = Unit {0}
Cascade step (b ∷ bs) = (b.from ≡ step) × ((pos b.to ≡ pos step +ℤ signed_of b.co2e) × Cascade b.to bs)

-- the steps after the first one
abbrev pub steps_of : List Bar → List ℕ
steps_of bs = map (λ (b : Bar). b.to) bs

-- the least of a number and some more, and the greatest
unfoldable pub least_of : ℕ → List ℕ → ℕ
least_of m [] = m
least_of m (t ∷ ts) = least_of (lesser m t) ts

unfoldable pub greatest_of : ℕ → List ℕ → ℕ
greatest_of m [] = m
greatest_of m (t ∷ ts) = greatest_of (greater m t) ts

-- from the least to the greatest of all steps, in thousandths that are rounded up
abbrev pub scale_over : List Bar → Scale
scale_over bs =
    let lo = least_of no_step (steps_of bs) in
    let hi = greatest_of no_step (steps_of bs) in
    record { lo = lo; unit = unit_of (hi - lo) }

-- each step stands in the scale
abbrev pub Places : Scale → List ℕ → Type 0
Places sc [] = Unit {0}
Places sc (t ∷ ts) = ((sc.lo ≤ t) × (place_of sc t ≤ 1000)) × Places sc ts

-- the bars of a table with the scale by which the page draws them
pub record InScale (sc : Scale) (bs : List Bar) : Type 0 where
  pub cascade : Cascade no_step bs
  pub scale : sc ≡ scale_over bs
  pub places : Places sc (no_step ∷ steps_of bs)

-- the two tables that have bars
pub record BarsDrawn (xs : List ℕ) : Type 0 where
  pub groups : InScale (group_scale (survey_of xs)) (group_bars xs)
  pub sources : InScale (source_scale (survey_of xs)) (source_bars xs)
