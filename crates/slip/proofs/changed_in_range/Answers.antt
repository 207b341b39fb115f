use Rattle.slip.specs.Slip.{changed_in_range}
use Rattle.slip.proofs.changed_in_range.Goals as goal

pub returns-in-Feed : goal.returns-in-Feed
unfolding changed_in_range
returns-in-Feed c = rw c.in-Feed.is c.ge_in_range.ensures

pub returns-in-Ym : goal.returns-in-Ym
unfolding changed_in_range
returns-in-Ym c = rw c.in-Ym.is c.ym_in_range.ensures

pub returns-in-Head : goal.returns-in-Head
unfolding changed_in_range
returns-in-Head c = rw c.in-Head.is c.head_in_range.ensures
