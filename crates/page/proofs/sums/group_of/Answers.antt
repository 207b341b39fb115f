-- By the heading, the subtotal and grazing's sum. Assumes nothing.
use Rattle.page.specs.Figures.{group_of}
use Rattle.page.proofs.sums.group_of.Goals as goal

pub returns : goal.returns
unfolding group_of
returns c = rw (
  c.group_step-to.ensures,
  c.warmed-co2e.ensures,
  c.saturating_sub-grazing.ensures,
  c.grams-all.ensures,
  c.grams-n2o.ensures,
  c.from.ensures,
  c.from-2.ensures,
  c.from-3.ensures,
)
