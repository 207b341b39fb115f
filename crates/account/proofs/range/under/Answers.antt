-- Without a group, or with one. Assumes nothing.
use Rattle.account.proofs.Under.{under_none, under_some}
use Rattle.account.proofs.range.under.Goals as goal

pub returns-then-h-eq0 : goal.returns-then-h-eq0
returns-then-h-eq0 c = rw (c.ungrouped.ensures, c.unheaded.ensures) (let a = c.args in
    under_none a.h a.u a.s a.records c.if-h-eq0.true)

pub returns : goal.returns
returns c = rw (c.grouped.ensures, c.headed.ensures) (let a = c.args in
    under_some a.h a.u a.s a.records c.if-h-eq0.false)
