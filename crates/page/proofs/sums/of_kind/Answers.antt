-- By what is gathered. Assumes nothing.
use Rattle.page.specs.Figures.{source_of}
use Rattle.page.proofs.sums.of_kind.Goals as goal

pub returns : goal.returns
unfolding source_of
returns c = rw (
  c.warmed-gases.ensures,
  c.gather-g.ensures.account_value.0,
  c.gather-g.ensures.account_value.1,
)
