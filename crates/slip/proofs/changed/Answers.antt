use Rattle.slip.proofs.changed.Goals as goal

pub returns-in-Feed : goal.returns-in-Feed
returns-in-Feed c = rw c.in-Feed.is

pub returns-in-Ym : goal.returns-in-Ym
returns-in-Ym c = rw c.in-Ym.is

pub returns-in-Head : goal.returns-in-Head
returns-in-Head c = rw c.in-Head.is
