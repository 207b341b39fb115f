-- By what is gathered. Assumes nothing.
use Rattle.page.specs.Figures.{survey_of}
use Rattle.page.proofs.sums.all.Goals as goal

pub returns : goal.returns
unfolding survey_of
returns c = rw (
  c.by_account.ensures,
  c.all_sources-s.ensures,
  c.name_of-n.ensures,
  c.gather-g.ensures.account_value.0,
)
