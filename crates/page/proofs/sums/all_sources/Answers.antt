-- One after the other. Assumes nothing.
use Rattle.page.specs.Figures.{sources_of}
use Rattle.page.proofs.sums.all_sources.Goals as goal

pub returns : goal.returns
unfolding sources_of
returns c = rw (
  c.of_kind-tillage.ensures,
  c.of_kind-soil.ensures,
  c.of_kind-energy.ensures,
  c.of_kind-grazing.ensures,
  c.of_kind-pig.ensures,
  c.of_kind-cattle.ensures,
  c.of_kind-enteric.ensures,
)
