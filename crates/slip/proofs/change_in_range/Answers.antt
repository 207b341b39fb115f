use Rattle.slip.specs.Slip.{change_in_range}
use Rattle.slip.proofs.change_in_range.Goals as goal

pub returns-in-Feed : goal.returns-in-Feed
unfolding change_in_range
returns-in-Feed c = rw c.in-Feed.is c.factor_in_range.ensures

pub returns-in-Ym : goal.returns-in-Ym
unfolding change_in_range
returns-in-Ym c = rw c.in-Ym.is c.ym_in_range.ensures

pub returns-in-Head : goal.returns-in-Head
unfolding change_in_range
returns-in-Head c = rw c.in-Head.is c.factor_in_range-in-Head.ensures
